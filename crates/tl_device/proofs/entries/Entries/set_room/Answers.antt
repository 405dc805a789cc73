use Rattle.std.proofs.Common.{◌≡◌, ◌∙◌, sym, subst, ap, IsSome}
use Rattle.tl_device.specs.memory.Entries.{NoneNamed}
use Rattle.tl_device.proofs.EntryLemmas.{name_is, IsChange, own-change, places-change, contents-change_same, rooms-change, IsAddition, own-addition, places-addition, contents-addition_same, rooms-addition}
use Rattle.tl_device.proofs.entries.Entries.set_room.Goals as goal

change : (c : goal.In_ok-make_room-in-Some) → IsChange c.self.inside.items.items c.in-Some.i c.index_mut.result.now c.make_room.new.self
change c = record {
  own = c.self.invariant;
  within = rw c.self.view_is c.in-Some.ensures.found.within;
  item = c.index_mut.ensures.value;
  named = ap (λ e. e.name) c.in_ok-make_room-in-Some.ensures.ok;
}

after_name : (c : goal.In_ok-make_room-in-Some) → c.make_room.new.self.name ≡ c.args.name.now
after_name c =
    ap (λ e. e.name) c.in_ok-make_room-in-Some.ensures.ok
    ∙ sym (name_is _ c.in-Some.i _ (change c).within c.index_mut.ensures.value)
    ∙ rw c.self.view_is c.in-Some.ensures.found.named

pub invariant_of-self : goal.invariant_of-self
invariant_of-self c = own-change (change c)

addition : (c : goal.In_ok-push-in-None) → IsAddition c.self.inside.items.items c.in_ok-with_room-in-None.field-0
addition c = record {
  own = c.self.invariant;
  none = subst (λ n. NoneNamed c.self.inside.items.items n) (sym (ap (λ e. e.name) c.in_ok-with_room-in-None.ensures)) (rw c.self.view_is c.in-None.ensures.none.none_named);
}

pub invariant_of-self-in_ok-push-in-None : goal.invariant_of-self-in_ok-push-in-None
invariant_of-self-in_ok-push-in-None c = rw c.in_ok-push-in-None.ensures.items (own-addition (addition c))

pub returns-in_ok-make_room-in-Some : goal.returns-in_ok-make_room-in-Some
returns-in_ok-make_room-in-Some c = rw (← c.self.view_is) (record {
  contents = contents-change_same (change c) (ap (λ e. e.file) c.in_ok-make_room-in-Some.ensures.ok);
  rooms = rooms-change (change c) _ _ (after_name c) (ap (λ e. e.room) c.in_ok-make_room-in-Some.ensures.ok);
  places = places-change (change c) (λ had. subst IsSome (sym (ap (λ e. e.file) c.in_ok-make_room-in-Some.ensures.ok)) had);
  err = tt;
})

pub returns-in_ok-push-in-None : goal.returns-in_ok-push-in-None
returns-in_ok-push-in-None c = rw (← c.self.view_is, c.in_ok-push-in-None.ensures.items) (record {
  contents = contents-addition_same (addition c) (ap (λ e. e.file) c.in_ok-with_room-in-None.ensures);
  rooms = rooms-addition (addition c) _ _ (ap (λ e. e.name) c.in_ok-with_room-in-None.ensures) (ap (λ e. e.room) c.in_ok-with_room-in-None.ensures);
  places = places-addition (addition c);
  err = tt;
})
