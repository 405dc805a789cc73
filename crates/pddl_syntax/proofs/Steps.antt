-- A step of the task is an action of the domain with one object of its type for each parameter.
use Rattle.std.proofs.Common.{◌≡◌, true, List, refl, sym, subst}
use Rattle.std.specs.Prelude.{IsTrue, Contains}
use Rattle.std.specs.List.{flat_map}
use Rattle.std.specs.Cmp.Lexicographic.{pointwise}
use Rattle.std.proofs.lemmas.Cmp.{nat_list_eq_equiv, lists_equiv}
use Rattle.lists.proofs.Items.{Among, among_contains, contains_among, among_map, map_source, any_passes, passing, among_flat_map, flat_map_piece}
use Rattle.pddl_syntax.specs.declared.types.Domain.{Domain}
use Rattle.pddl_syntax.specs.declared.types.Problem.{Problem}
use Rattle.pddl_syntax.specs.Words.{Name, is_same}
use Rattle.pddl_syntax.specs.Objects.{choices, is_choice}
use Rattle.pddl_syntax.specs.Step.{Step, steps_of}
use Rattle.pddl_syntax.proofs.SameAtoms.{same_items, same_name}

-- the step's action is one of the domain's, and each object has the type of its parameter
pub record IsStep (domain : Domain) (problem : Problem) (step : Step) : Type 0 where
  pub declared : Contains domain.actions step.action
  pub typed : IsTrue (is_choice domain problem step.action.parameters step.objects)

pub name_same : (name : Name) → is_same name name ≡ true
name_same = nat_list_eq_equiv.refl

pub is_step : (domain : Domain) (problem : Problem) (step : Step) → Contains (flat_map (steps_of domain problem) domain.actions) step → IsStep domain problem step
is_step domain problem step contained =
    let piece = flat_map_piece (steps_of domain problem) domain.actions step (among_contains (flat_map (steps_of domain problem) domain.actions) step contained) in
    let made = map_source (λ objects. record { action = piece.source; objects = objects }) (choices domain problem piece.source.parameters) step piece.inside in
    let is : IsStep domain problem (record { action = piece.source; objects = made.source }) = record {
      declared = contains_among domain.actions piece.source piece.among;
      typed = any_passes (pointwise is_same made.source) made.source (choices domain problem piece.source.parameters) made.among ((lists_equiv nat_list_eq_equiv).refl made.source);
    } in
    subst (IsStep domain problem) made.gives is

pub in_steps : (domain : Domain) (problem : Problem) (step : Step) → IsStep domain problem step → Contains (flat_map (steps_of domain problem) domain.actions) step
in_steps domain problem step is =
    let found = passing (pointwise is_same step.objects) (choices domain problem step.action.parameters) is.typed in
    let same = same_items is_same same_name step.objects found.item found.passes in
    let inside = among_map (λ objects. record { action = step.action; objects = objects }) found.item (choices domain problem step.action.parameters) found.among in
    let here = subst (λ (os : List Name). Among (record { action = step.action; objects = os }) (steps_of domain problem step.action)) (sym same) inside in
    contains_among (flat_map (steps_of domain problem) domain.actions) step (among_flat_map (steps_of domain problem) step.action step domain.actions (among_contains domain.actions step.action is.declared) here)
