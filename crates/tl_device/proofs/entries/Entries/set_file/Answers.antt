use Rattle.std.proofs.Common.{◌∙◌, sym, subst, ap, refl, IsSome}
use Rattle.tl_device.specs.memory.Entries.{NoneNamed}
use Rattle.tl_device.proofs.EntryLemmas.{name_is, IsChange, own-change, places-change, contents-change, rooms-change_none, IsAddition, own-addition, places-addition, contents-addition, rooms-addition_none}
use Rattle.tl_device.proofs.entries.Entries.set_file.Goals as goal

change : (c : goal.After-drop-index_mut-in-Some) → IsChange c.self.inside.items.items c.in-Some.i c.index_mut.result.now c.in_ok-entry.entry
change c = record {
  own = c.self.invariant;
  within = rw c.self.view_is c.in-Some.ensures.found.within;
  item = c.index_mut.ensures.value;
  named = ap (λ e. e.name) c.in_ok-entry.ensures ∙ sym c.in-Some.ensures.found.named ∙ rw (← c.self.view_is) (name_is _ c.in-Some.i _ (rw c.self.view_is c.in-Some.ensures.found.within) c.index_mut.ensures.value);
}

pub invariant_of-self : goal.invariant_of-self
invariant_of-self c = own-change (change c)

addition : (c : goal.In_ok-push-in-None) → IsAddition c.self.inside.items.items c.in_ok-entry.entry
addition c = record { own = c.self.invariant; none = subst (λ n. NoneNamed c.self.inside.items.items n) (sym (ap (λ e. e.name) c.in_ok-entry.ensures)) (rw c.self.view_is c.in-None.ensures.none.none_named) }

pub invariant_of-self-in-Continue-branch-2 : goal.invariant_of-self-in-Continue-branch-2
invariant_of-self-in-Continue-branch-2 c = rw c.in_ok-push-in-None.ensures.items (own-addition (addition c))

pub returns-in-Some : goal.returns-in-Some
returns-in-Some c = rw (← c.self.view_is) (record {
  contents = contents-change (change c) _ _ (ap (λ e. e.name) c.in_ok-entry.ensures) (ap (λ e. e.file) c.in_ok-entry.ensures);
  rooms = rooms-change_none (change c) _ (ap (λ e. e.name) c.in_ok-entry.ensures) (ap (λ e. e.room) c.in_ok-entry.ensures);
  places = places-change (change c) (λ _. subst IsSome (sym (ap (λ e. e.file) c.in_ok-entry.ensures)) refl);
  err = tt;
})

pub returns-in_ok-push-in-None : goal.returns-in_ok-push-in-None
returns-in_ok-push-in-None c = rw (← c.self.view_is, c.in_ok-push-in-None.ensures.items) (record {
  contents = contents-addition (addition c) _ _ (ap (λ e. e.name) c.in_ok-entry.ensures) (ap (λ e. e.file) c.in_ok-entry.ensures);
  rooms = rooms-addition_none (addition c) _ (ap (λ e. e.name) c.in_ok-entry.ensures) (ap (λ e. e.room) c.in_ok-entry.ensures);
  places = places-addition (addition c);
  err = tt;
})
