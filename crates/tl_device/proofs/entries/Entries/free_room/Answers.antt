use Rattle.std.proofs.Common.{◌≡◌, ◌<◌, length, sym, refl, subst, IsSome}
use Rattle.tl_device.specs.memory.Entries.{file_at, room_at, IsEntryOf, name_at}
use Rattle.tl_device.proofs.EntryLemmas.{file_is, room_is, entry_of}
use Rattle.tl_device.proofs.entries.Entries.free_room.Goals as goal

pub free_room-requires : goal.free_room-requires
free_room-requires c = subst IsSome (file_is _ c.args.i _ (rw c.self.view_is c.requires.within) c.index.ensures) (rw c.self.view_is c.requires.exists)

pub returns : goal.returns
returns c =
    let within : c.args.i < length c.self.inside.items.items = rw c.self.view_is c.requires.within in
    let file : file_at c.self.inside.items.items c.args.i ≡ c.index.result.now.file = file_is _ c.args.i _ within c.index.ensures in
    let room : room_at c.self.inside.items.items c.args.i ≡ c.index.result.now.room = room_is _ c.args.i _ within c.index.ensures in
    let entry : IsEntryOf c.self.inside.items.items (name_at c.self.inside.items.items c.args.i) c.args.i = entry_of _ c.args.i _ c.self.invariant within refl in
    record {
      free = rw (← c.self.view_is, entry.file, entry.room, file, room) c.free_room.ensures;
      held = rw (← c.self.view_is) (subst IsSome (sym entry.file) (rw c.self.view_is c.requires.exists));
    }
