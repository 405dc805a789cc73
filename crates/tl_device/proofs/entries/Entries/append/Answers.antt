use Rattle.std.proofs.Common.{◌≡◌, ◌<◌, [], length, unwrap_or, sym, subst, ap, refl, IsSome}
use Rattle.tl_device.specs.memory.Entries.{file_at, room_at, name_at, IsEntryOf}
use Rattle.tl_device.proofs.EntryLemmas.{some_held, file_is, room_is, entry_of, IsChange, own-change, places-change, contents-change_grow, rooms-change_same}
use Rattle.tl_device.proofs.entries.Entries.append.Goals as goal

pub append-requires : goal.append-requires
append-requires c =
    let within : c.args.i < length c.self.inside.items.items = rw c.self.view_is c.requires.exists.within in
    let file : file_at c.self.inside.items.items c.args.i ≡ c.index_mut.result.now.file = file_is _ c.args.i _ within c.index_mut.ensures.value in
    let room : room_at c.self.inside.items.items c.args.i ≡ c.index_mut.result.now.room = room_is _ c.args.i _ within c.index_mut.ensures.value in
    let entry : IsEntryOf c.self.inside.items.items (name_at c.self.inside.items.items c.args.i) c.args.i = entry_of _ c.args.i _ c.self.invariant within refl in
    record {
      exists = subst IsSome file (rw c.self.view_is c.requires.exists.exists);
      room = rw (← file, ← room, ← entry.file, ← entry.room, c.self.view_is) c.requires.room;
    }

change : (c : goal.After-self-1) → IsChange c.self.inside.items.items c.args.i c.index_mut.result.now c.append.new.self
change c = record { own = c.self.invariant; within = rw c.self.view_is c.requires.exists.within; item = c.index_mut.ensures.value; named = ap (λ e. e.name) c.append.ensures }

pub invariant_of-self : goal.invariant_of-self
invariant_of-self c = own-change (change c)

pub returns : goal.returns
returns c =
    let exists : IsSome c.index_mut.result.now.file = subst IsSome (file_is _ c.args.i _ (change c).within c.index_mut.ensures.value) (rw c.self.view_is c.requires.exists.exists) in
    rw (← c.self.view_is) (record {
      contents = contents-change_grow (change c) (unwrap_or c.index_mut.result.now.file []) c.args.piece.now (some_held _ exists) (ap (λ e. e.file) c.append.ensures);
      rooms = rooms-change_same (change c) (ap (λ e. e.room) c.append.ensures);
      places = places-change (change c) (λ _. subst IsSome (sym (ap (λ e. e.file) c.append.ensures)) refl);
    })
