-- In a pair without check faults no name is declared twice.
use Rattle.std.proofs.Common.{◌≡◌, false, List, [], ◌∷◌, ◌++◌, map, inl, inr, refl, sym, ◌∙◌, subst}
use Rattle.std.specs.Prelude.{if◌then◌else◌}
use Rattle.std.specs.List.{AllByRecursion, IsDistinct, list_any}
use Rattle.std.proofs.lemmas.Cmp.{nat_list_eq_equiv}
use Rattle.std.proofs.lemmas.Bool.{false_from_ne_true, true≢false}
use Rattle.std.proofs.lemmas.List.{map-append}
use Rattle.std.proofs.lemmas.Simd.{map-map}
use Rattle.pddl_lexer.specs.declared.position.At.{At}
use Rattle.pddl_syntax.specs.declared.types.Action.{Action}
use Rattle.pddl_syntax.specs.declared.types.Domain.{Domain}
use Rattle.pddl_syntax.specs.declared.types.Head.{Head}
use Rattle.pddl_syntax.specs.declared.types.Named.{Named}
use Rattle.pddl_syntax.specs.declared.types.Problem.{Problem}
use Rattle.pddl_syntax.specs.declared.types.Typed.{Typed}
use Rattle.pddl_syntax.specs.Words.{Name, is_same}
use Rattle.pddl_syntax.specs.Objects.{objects}
use Rattle.lists.proofs.Items.{Among, any_passes}
use Rattle.fault_positions.specs.Mentions.{in_domain, in_problem}
use Rattle.fault_positions.specs.Names.{repeats_after, repeats, names_of, head_names, repeated_variables, domain_repeats, problem_repeats}
use Rattle.type_checker.specs.Faults.{check_faults}
use Rattle.type_checker.proofs.NoFaults.{left_empty, right_empty, row_empty, if_there}

-- ---- lists of names

abbrev names_in : List Named → List Name
names_in names = map (λ named. named.name) names

-- the first name is none of those before, and the others repeat none
pub first_new : (before : List Name) (named : Named) (more : List Named) → repeats_after before (named ∷ more) ≡ [] →
    (list_any (is_same named.name) before ≡ false) × (repeats_after (named.name ∷ before) more ≡ [])
first_new before named more none =
    let known = list_any (is_same named.name) before in
    let here = if known then named.at ∷ [] else [] in
    let others = repeats_after (named.name ∷ before) more in
    (if_there known named.at (left_empty here others none), right_empty here others none)

-- no name of the list is this one
abbrev Differ : Name → List Name → Type 0
Differ name names = AllByRecursion (λ other. is_same name other ≡ false) names

other_than : (name before_name : Name) (before : List Name) → Among before_name before → list_any (is_same name) before ≡ false → is_same name before_name ≡ false
other_than name before_name before there none =
    false_from_ne_true (is_same name before_name) (λ same. true≢false (sym (any_passes (is_same name) before_name before there same) ∙ none))

-- those before differ from all
differ : (before : List Name) (names : List Named) → repeats_after before names ≡ [] → (name : Name) → Among name before → Differ name (names_in names)
differ before [] none name among = tt
differ before (named ∷ names) none name among =
    let new = first_new before named names none in
    (nat_list_eq_equiv.symm name named.name ∙ other_than named.name name before among new.0, differ (named.name ∷ before) names new.1 name (inr among))

pub distinct : (before : List Name) (names : List Named) → repeats_after before names ≡ [] → IsDistinct is_same (names_in names)
unfolding IsDistinct
distinct before [] none = tt
distinct before (named ∷ names) none =
    let new = first_new before named names none in
    (differ (named.name ∷ before) names new.1 named.name (inl refl), distinct (named.name ∷ before) names new.1)

differ_both : (name : Name) (xs ys : List Name) → Differ name xs → Differ name ys → Differ name (xs ++ ys)
differ_both name [] ys left right = right
differ_both name (x ∷ xs) ys left right = (left.0, differ_both name xs ys left.1 right)

distinct_both : (xs ys : List Name) → IsDistinct is_same xs → IsDistinct is_same ys → ((name : Name) → Among name xs → Differ name ys) → IsDistinct is_same (xs ++ ys)
unfolding IsDistinct
distinct_both [] ys left right apart = right
distinct_both (x ∷ xs) ys left right apart = (differ_both x xs ys left.0 (apart x (inl refl)), distinct_both xs ys left.1 right (λ name among. apart name (inr among)))

-- ---- the two files

module _ (domain : Domain) (problem : Problem) (none : check_faults domain problem ≡ []) where
  positions : (domain_repeats domain ≡ []) × (problem_repeats domain problem ≡ [])
  positions = row_empty domain problem none _ (inr (inr (inl refl)))

  abbrev action_names : List Named
  action_names = map (λ action. action.name) domain.actions

  -- behind the predicates, the functions and the actions
  abbrev behind_actions : List At
  behind_actions = repeats (names_of domain.constants) ++ repeated_variables (in_domain domain)

  abbrev behind_functions : List At
  behind_functions = repeats action_names ++ behind_actions

  abbrev behind_predicates : List At
  behind_predicates = repeats (head_names domain.functions) ++ behind_functions

  pub no_repeated_predicate : repeats (head_names domain.predicates) ≡ []
  no_repeated_predicate = left_empty (repeats (head_names domain.predicates)) behind_predicates positions.0

  pub no_repeated_function : repeats (head_names domain.functions) ≡ []
  no_repeated_function = left_empty (repeats (head_names domain.functions)) behind_functions (right_empty (repeats (head_names domain.predicates)) behind_predicates positions.0)

  in_actions : behind_functions ≡ []
  in_actions = right_empty (repeats (head_names domain.functions)) behind_functions (right_empty (repeats (head_names domain.predicates)) behind_predicates positions.0)

  pub no_repeated_action : repeats action_names ≡ []
  no_repeated_action = left_empty (repeats action_names) behind_actions in_actions

  no_repeated_constant : repeats (names_of domain.constants) ≡ []
  no_repeated_constant = left_empty (repeats (names_of domain.constants)) (repeated_variables (in_domain domain)) (right_empty (repeats action_names) behind_actions in_actions)

  no_repeated_object : repeats_after (map (λ constant. constant.name.name) domain.constants) (names_of problem.objects) ≡ []
  no_repeated_object = left_empty (repeats_after (map (λ constant. constant.name.name) domain.constants) (names_of problem.objects)) (repeated_variables (in_problem problem)) positions.1

  names_of_all : {X : Type 0} (name_of : X → Named) (xs : List X) → names_in (map name_of xs) ≡ map (λ x. (name_of x).name) xs
  names_of_all = map-map (λ (named : Named). named.name)

  once : {X : Type 0} (name_of : X → Named) (xs : List X) → repeats (map name_of xs) ≡ [] → IsDistinct is_same (map (λ x. (name_of x).name) xs)
  once name_of xs unrepeated = subst (IsDistinct is_same) (names_of_all name_of xs) (distinct [] (map name_of xs) unrepeated)

  pub predicates_once : IsDistinct is_same (map (λ head. head.name.name) domain.predicates)
  predicates_once = once (λ (head : Head). head.name) domain.predicates no_repeated_predicate

  pub functions_once : IsDistinct is_same (map (λ head. head.name.name) domain.functions)
  functions_once = once (λ (head : Head). head.name) domain.functions no_repeated_function

  pub actions_once : IsDistinct is_same (map (λ action. action.name.name) domain.actions)
  actions_once = once (λ (action : Action). action.name) domain.actions no_repeated_action

  -- constants and objects together
  pub objects_once : IsDistinct is_same (map (λ object. object.name.name) (objects domain problem))
  objects_once =
      let name_of : Typed → Name = λ object. object.name.name in
      let constants = once (λ (object : Typed). object.name) domain.constants no_repeated_constant in
      let others = subst (IsDistinct is_same) (names_of_all (λ (object : Typed). object.name) problem.objects) (distinct (map name_of domain.constants) (names_of problem.objects) no_repeated_object) in
      subst (IsDistinct is_same) (sym (map-append name_of domain.constants problem.objects))
      (distinct_both (map name_of domain.constants) (map name_of problem.objects) constants others
      (λ name among. subst (Differ name) (names_of_all (λ (object : Typed). object.name) problem.objects) (differ (map name_of domain.constants) (names_of problem.objects) no_repeated_object name among)))
