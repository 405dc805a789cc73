-- In a pair without check faults `:init` denies nothing that it states, and gives each term one value.
use Rattle.std.proofs.Common.{◌≡◌, ℕ, true, not, List, [], ◌∷◌, ◌++◌, Option, None, Some, nat_eq, inl, inr, refl, ap, ◌∙◌, subst, append_assoc}
use Rattle.std.specs.Prelude.{if◌then◌else◌}
use Rattle.std.specs.Cmp.Lexicographic.{pointwise}
use Rattle.std.specs.List.{list_any, list_all}
use Rattle.std.specs.Option.{option_or}
use Rattle.std.proofs.lemmas.Bool.{and_from, not-false, not_from_false}
use Rattle.std.proofs.lemmas.Cmp.{nat_eq_equiv, nat_list_eq_equiv, lists_equiv}
use Rattle.pddl_syntax.specs.declared.types.Domain.{Domain}
use Rattle.pddl_syntax.specs.declared.types.Init.{Init}
use Rattle.pddl_syntax.specs.declared.types.Init.TheVariants.{Holds, HoldsNot, Value}
use Rattle.pddl_syntax.specs.declared.types.Problem.{Problem}
use Rattle.pddl_syntax.specs.Words.{is_same}
use Rattle.pddl_syntax.specs.Holds.{GroundAtom, is_same_atom, ground}
use Rattle.pddl_syntax.specs.Plan.{is_stated}
use Rattle.pddl_syntax.specs.Step.{value_in}
use Rattle.lists.proofs.Items.{each_passes}
use Rattle.fault_positions.specs.Initial.{denied_position, is_another, revalued_position, revalued_after}
use Rattle.fault_positions.proofs.InitialEntries.{value_then}
use Rattle.type_checker.specs.Faultless.{denies_none, is_value, gives_the_value}
use Rattle.type_checker.specs.Faults.{check_faults}
use Rattle.type_checker.proofs.NoFaults.{left_empty, right_empty, piece_empty, row_empty, if_there}

denies : (init : List Init) (entry : Init) → denied_position init entry ≡ [] → denies_none init entry ≡ true
denies init (Holds atom) none = refl
denies init (HoldsNot atom at) none =
    let stated = list_any (is_stated (ground [] atom)) init in
    not_from_false stated (if_there stated at none)
denies init (Value term value at) none = refl

same_itself : (atom : GroundAtom) → is_same_atom atom atom ≡ true
same_itself atom =
    and_from (is_same atom.predicate atom.predicate) (pointwise is_same atom.objects atom.objects) (nat_list_eq_equiv.refl atom.predicate) ((lists_equiv nat_list_eq_equiv).refl atom.objects)

gives : (before : List Init) (entry : Init) (more : List Init) → revalued_position before entry ≡ [] → gives_the_value (before ++ entry ∷ more) entry ≡ true
gives before (Holds atom) more none = refl
gives before (HoldsNot atom at) more none = refl
gives before (Value term value at) more none =
    ap (λ (known : Option ℕ). is_value known value) (value_then before (Value term value at ∷ more) (ground [] term)) ∙ by (value_in before (ground [] term)) none
  where
    by : (known : Option ℕ) → (if is_another known value then at ∷ [] else []) ≡ [] →
        is_value (option_or known (if is_same_atom (ground [] term) (ground [] term) then Some value else value_in more (ground [] term))) value ≡ true
    by None none = ap (λ b. is_value (if b then Some value else value_in more (ground [] term)) value) (same_itself (ground [] term)) ∙ nat_eq_equiv.refl value
    by (Some known) none = not-false (nat_eq known value) (if_there (not (nat_eq known value)) at none)

all_give : (before entries : List Init) → revalued_after before entries ≡ [] → list_all (gives_the_value (before ++ entries)) entries ≡ true
all_give before [] none = refl
all_give before (entry ∷ more) none =
    let later = revalued_after (before ++ entry ∷ []) more in
    let rest = all_give (before ++ entry ∷ []) more (right_empty (revalued_position before entry) later none) in
    and_from (gives_the_value (before ++ entry ∷ more) entry) (list_all (gives_the_value (before ++ entry ∷ more)) more)
    (gives before entry more (left_empty (revalued_position before entry) later none))
    (subst (λ (init : List Init). list_all (gives_the_value init) more ≡ true) (append_assoc before (entry ∷ []) more) rest)

module _ (domain : Domain) (problem : Problem) (none : check_faults domain problem ≡ []) where
  pub no_conflict : list_all (denies_none problem.init) problem.init ≡ true
  no_conflict =
      let positions = row_empty domain problem none _ (inr (inr (inr (inr (inr (inr (inr (inr (inr (inr (inl refl))))))))))) in
      each_passes (denies_none problem.init) problem.init (λ entry among. denies problem.init entry (piece_empty (denied_position problem.init) problem.init positions.1 entry among))

  pub one_value : list_all (gives_the_value problem.init) problem.init ≡ true
  one_value =
      let positions = row_empty domain problem none _ (inr (inr (inr (inr (inr (inr (inr (inr (inr (inr (inr (inl refl)))))))))))) in
      all_give [] problem.init positions.1
