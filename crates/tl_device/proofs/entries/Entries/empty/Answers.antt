use Rattle.std.proofs.Common.{◌∙◌, sym, subst, ap, refl, IsSome}
use Rattle.tl_device.proofs.EntryLemmas.{IsChange, name-change, own-change, places-change, file_at-change, contents-change, rooms-change_same}
use Rattle.tl_device.proofs.entries.Entries.empty.Goals as goal

change : (c : goal.After-self-1) → IsChange c.self.inside.items.items c.args.i c.index_mut.result.now c.empty.new.self
change c = record { own = c.self.invariant; within = rw c.self.view_is c.requires; item = c.index_mut.ensures.value; named = ap (λ e. e.name) c.empty.ensures }

pub invariant_of-self : goal.invariant_of-self
invariant_of-self c = own-change (change c)

pub returns : goal.returns
returns c = rw (← c.self.view_is) (record {
  contents = contents-change (change c) _ _ (name-change (change c)) (ap (λ e. e.file) c.empty.ensures);
  rooms = rooms-change_same (change c) (ap (λ e. e.room) c.empty.ensures);
  places = places-change (change c) (λ _. subst IsSome (sym (ap (λ e. e.file) c.empty.ensures)) refl);
  file = subst IsSome (sym (file_at-change (change c) ∙ ap (λ e. e.file) c.empty.ensures)) refl;
})
