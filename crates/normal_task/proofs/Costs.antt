-- The schemas of an action cost what the action costs.
use Rattle.std.proofs.Common.{◌≡◌, ℕ, Bool, true, false, not, ◌&&◌, ◌||◌, List, [], ◌∷◌, ◌++◌, map, Some, inl, inr, ◌⊎◌, refl, sym, ap, ◌∙◌, subst}
use Rattle.std.specs.Prelude.{nat_eq, if◌then◌else◌}
use Rattle.std.specs.List.{list_all, list_any, flat_map}
use Rattle.std.specs.Cmp.Lexicographic.{pointwise}
use Rattle.std.proofs.lemmas.Bool.{and_parts, and_from, or_cases, eqb-true, false≢true, not-true}
use Rattle.lists.specs.Members.{is_among}
use Rattle.pddl_lexer.specs.declared.position.At.{At}
use Rattle.pddl_lexer.specs.declared.fault.Kind.TheVariants as kinds
use Rattle.pddl_syntax.specs.declared.types.Action.{Action}
use Rattle.pddl_syntax.specs.declared.types.Atom.{Atom}
use Rattle.pddl_syntax.specs.declared.types.Cost.{Cost}
use Rattle.pddl_syntax.specs.declared.types.Cost.TheVariants as pddl_costs
use Rattle.pddl_syntax.specs.declared.types.Domain.{Domain}
use Rattle.pddl_syntax.specs.declared.types.Effect.{Effect, Effect-F}
use Rattle.pddl_syntax.specs.declared.types.Init.{Init}
use Rattle.pddl_syntax.specs.declared.types.Init.TheVariants as inits
use Rattle.pddl_syntax.specs.declared.types.Problem.{Problem}
use Rattle.pddl_syntax.specs.Words.{Name, is_same}
use Rattle.pddl_syntax.specs.Objects as pddl
use Rattle.pddl_syntax.specs.Holds as holds
use Rattle.pddl_syntax.specs.Step as step
use Rattle.pddl_syntax.proofs.ConditionCases.{Each}
use Rattle.pddl_syntax.proofs.SameAtoms.{same_name}
use Rattle.fault_positions.specs.Increases as increases
use Rattle.fault_positions.specs.Increases.{Depth, Outermost, Inner, Increase, total_cost}
use Rattle.fault_positions.specs.Mentions.{Mention, Function, in_condition, in_effect, effect_step, in_domain, in_init, in_problem}
use Rattle.fault_positions.specs.Names as names
use Rattle.fault_positions.specs.Scopes as scopes
use Rattle.type_checker.specs.Faults.{Row, row, check_faults}
use Rattle.type_checker.proofs.NoFaults.{left_empty, right_empty, row_empty}
use Rattle.lists.proofs.Items.{Among, each_both, any_passes, passing, piece_empty}
use Rattle.normal_task.specs.declared.task.CostRow.TheVariants as costs
use Rattle.normal_task.specs.declared.task.ValueRow.{ValueRow}
use Rattle.normal_task.specs.Numbers.{head_names, function_number}
use Rattle.normal_task.specs.Meaning as task
use Rattle.normal_task.specs.Meaning.{Binding, is_same_value}
use Rattle.normal_task.specs.Parts.{Scope}
use Rattle.normal_task.specs.Normalised.{parameter_scope, cost_row, increase_row, action_cost, once_after, value_row}
use Rattle.normal_task.proofs.Alls.{all-left, all-right, all-both_tests}
use Rattle.normal_task.proofs.Mentioned.{is_known_term, is_known_mention, AreKnown}
use Rattle.normal_task.proofs.Scopes.{longer, number, is_known, inside-stands}
use Rattle.normal_task.proofs.Bound.{in-inside, terms-bound}
use Rattle.normal_task.proofs.ConditionsMean.{same-number, terms-objects}
use Rattle.normal_task.proofs.EffectsMean.{StandAll, same-objects}
use Rattle.normal_task.proofs.FullStatesMatch.{planning, num}
use Rattle.normal_task.proofs.Faultless.{declared_among, is_function_mention, functions_known, in_each_action, action_mentioned, action_bound, known_in_problem, unbound_rows}
use Rattle.type_checker.proofs.EffectFolds.{by_folds}

-- ---- values, each once

-- the row gives the value of the function for these objects
abbrev gives : ℕ → List ℕ → ValueRow → Bool
gives function objects row = nat_eq row.function function && pointwise nat_eq row.objects objects

module _ (domain : Domain) (problem : Problem) (function : ℕ) (objects : List ℕ) where
  abbrev asked : ValueRow → Bool
  asked = gives function objects

  same-asked : (a b : ValueRow) → is_same_value a b ≡ true → asked a ≡ asked b
  same-asked a b e =
      let parts = and_parts (nat_eq a.function b.function) (pointwise nat_eq a.objects b.objects) e in
      ap (λ (n : ℕ). nat_eq n function && pointwise nat_eq a.objects objects) (eqb-true a.function b.function parts.0)
      ∙ ap (λ (os : List ℕ). nat_eq b.function function && pointwise nat_eq os objects) (same_name a.objects b.objects parts.1)

  -- values that are left out were given before
  once-value : (rows before : List ValueRow) → list_any asked before ≡ false → task.value_in (once_after domain problem is_same_value before rows) function objects ≡ task.value_in rows function objects
  once-value [] before none = refl
  once-value (row ∷ rows) before none = by (list_any (is_same_value row) before) refl (asked row) refl (once-value rows before none) (once-value rows (row ∷ before))
    where
      by : (b : Bool) → list_any (is_same_value row) before ≡ b → (a : Bool) → asked row ≡ a → task.value_in (once_after domain problem is_same_value before rows) function objects ≡ task.value_in rows function objects →
          (list_any asked (row ∷ before) ≡ false → task.value_in (once_after domain problem is_same_value (row ∷ before) rows) function objects ≡ task.value_in rows function objects) →
          task.value_in (if b then once_after domain problem is_same_value before rows else row ∷ once_after domain problem is_same_value (row ∷ before) rows) function objects ≡ task.value_in (row ∷ rows) function objects
      by true e true is rest more =
          let found = passing (is_same_value row) before e in
          let some = any_passes asked found.item before found.among (sym (same-asked row found.item found.passes) ∙ is) in
          absurd (false≢true (sym none ∙ some))
      by true e false is rest more = rest ∙ sym (ap (λ b. if b then Some row.value else task.value_in rows function objects) is)
      by false e true is rest more =
          ap (λ b. if b then Some row.value else task.value_in (once_after domain problem is_same_value (row ∷ before) rows) function objects) is
          ∙ sym (ap (λ b. if b then Some row.value else task.value_in rows function objects) is)
      by false e false is rest more =
          ap (λ b. if b then Some row.value else task.value_in (once_after domain problem is_same_value (row ∷ before) rows) function objects) is
          ∙ more (ap (λ b. b || list_any asked before) is ∙ none)
          ∙ sym (ap (λ b. if b then Some row.value else task.value_in rows function objects) is)

module _ (domain : Domain) (problem : Problem) where
  abbrev is_function : Name → Bool
  is_function = is_among is_same (head_names domain.functions)

  -- a value is given to a declared function of known objects, or to the total cost
  abbrev is_known_value : Init → Bool
  is_known_value (inits.Holds atom) = true
  is_known_value (inits.HoldsNot atom at) = true
  is_known_value (inits.Value term value at) = names.is_function domain term.predicate.name && list_all (is_known domain problem) (holds.ground [] term).objects

  declared-function : (name : Name) → names.is_function domain name ≡ true → is_same name total_cost ≡ false → is_function name ≡ true
  declared-function name known other = sym (declared_among domain.functions name) ∙ by (or_cases (names.is_declared domain.functions name) (is_same name total_cost) known)
    where
      by : (names.is_declared domain.functions name ≡ true) ⊎ (is_same name total_cost ≡ true) → names.is_declared domain.functions name ≡ true
      by (inl here) = here
      by (inr total) = absurd (false≢true (sym other ∙ total))

  -- the rows give the values that the entries give
  same-values : (entries : List Init) → list_all is_known_value entries ≡ true → (atom : holds.GroundAtom) → is_function atom.predicate ≡ true → is_same atom.predicate total_cost ≡ false → list_all (is_known domain problem) atom.objects ≡ true →
      task.value_in (flat_map (value_row domain problem) entries) (function_number domain atom.predicate) (map (num domain problem) atom.objects) ≡ step.value_in entries atom
  same-values [] known atom is_it other objects = refl
  same-values (inits.Holds stated ∷ entries) known atom is_it other objects = same-values entries known atom is_it other objects
  same-values (inits.HoldsNot denied at ∷ entries) known atom is_it other objects = same-values entries known atom is_it other objects
  same-values (inits.Value term value at ∷ entries) known atom is_it other objects =
      let parts = and_parts (is_known_value (inits.Value term value at)) (list_all is_known_value entries) known in
      let sides = and_parts (names.is_function domain term.predicate.name) (list_all (is_known domain problem) (holds.ground [] term).objects) parts.0 in
      by (is_same term.predicate.name total_cost) refl sides.0 sides.1 (same-values entries parts.1 atom is_it other objects)
    where
      row : ValueRow
      row = record { function = function_number domain term.predicate.name; objects = map (num domain problem) (holds.ground [] term).objects; value = value }

      by : (b : Bool) → is_same term.predicate.name total_cost ≡ b → names.is_function domain term.predicate.name ≡ true → list_all (is_known domain problem) (holds.ground [] term).objects ≡ true →
          task.value_in (flat_map (value_row domain problem) entries) (function_number domain atom.predicate) (map (num domain problem) atom.objects) ≡ step.value_in entries atom →
          task.value_in ((if b then [] else record { function = function_number domain term.predicate.name; objects = map (num domain problem) (holds.ground [] term).objects; value = value } ∷ []) ++ flat_map (value_row domain problem) entries)
          (function_number domain atom.predicate) (map (num domain problem) atom.objects)
          ≡ (if holds.is_same_atom (holds.ground [] term) atom then Some value else step.value_in entries atom)
      by true total known_name known_objects rest = rest ∙ sym (ap (λ b. if b && pointwise is_same (holds.ground [] term).objects atom.objects then Some value else step.value_in entries atom) (apart (is_same term.predicate.name atom.predicate) refl))
        where
          apart : (b : Bool) → is_same term.predicate.name atom.predicate ≡ b → is_same term.predicate.name atom.predicate ≡ false
          apart true e = absurd (false≢true (sym other ∙ subst (λ (n : Name). is_same n total_cost ≡ true) (same_name term.predicate.name atom.predicate e) total))
          apart false e = e
      by false not_total known_name known_objects rest =
          let one = same-number (head_names domain.functions) term.predicate.name atom.predicate (declared-function term.predicate.name known_name not_total) is_it in
          let more = same-objects domain problem (holds.ground [] term).objects atom.objects known_objects objects in
          ap (λ v. if nat_eq (function_number domain term.predicate.name) (function_number domain atom.predicate) && pointwise nat_eq (map (num domain problem) (holds.ground [] term).objects) (map (num domain problem) atom.objects) then Some value else v) rest
          ∙ ap (λ b. if b && pointwise nat_eq (map (num domain problem) (holds.ground [] term).objects) (map (num domain problem) atom.objects) then Some value else step.value_in entries atom) one
          ∙ ap (λ b. if is_same term.predicate.name atom.predicate && b then Some value else step.value_in entries atom) more

  -- ---- increases

  -- the term of a cost is a declared function of known objects and of bound variables
  abbrev CostSound : List Name → Cost → Type 0
  CostSound in_scope (pddl_costs.Number number) = Unit {0}
  CostSound in_scope (pddl_costs.Term term) =
      (scopes.unbound_terms in_scope term.terms ≡ []) × (list_all (is_known_term domain problem) term.terms ≡ true) × (is_function term.predicate.name ≡ true) × (is_same term.predicate.name total_cost ≡ false)

  abbrev is_formed : Increase → Bool
  is_formed increase = increase.is_formed

  abbrev is_sound_mention : Mention → Bool
  is_sound_mention mention = is_known_mention domain problem mention && is_function_mention domain problem mention

  abbrev IncreasesSound : List Cost → (Depth → List Increase) → (scopes.Scope → List At) → List Mention → Type 0
  IncreasesSound costs list unbound mentions =
      ((list_all is_formed (list Inner) ≡ true → costs ≡ []) × ((depth : Depth) → list_all is_formed (list depth) ≡ true → (in_scope : List Name) → unbound in_scope ≡ [] → list_all is_sound_mention mentions ≡ true → Each (CostSound in_scope) costs))

  abbrev Sound : Effect → Type 0
  Sound effect = IncreasesSound (step.increases effect) (increases.increases effect) (scopes.in_effect effect) (in_effect effect)

  none-inner : (members : List Effect) → Each Sound members → list_all is_formed (flat_map (λ (member : Depth → List Increase). member Inner) (map increases.increases members)) ≡ true → flat_map (λ (costs : List Cost). costs) (map step.increases members) ≡ []
  none-inner [] each formed = refl
  none-inner (member ∷ members) each formed =
      let here = each.0.0 (all-left is_formed (increases.increases member Inner) (flat_map (λ (member : Depth → List Increase). member Inner) (map increases.increases members)) formed) in
      let rest = none-inner members each.1 (all-right is_formed (increases.increases member Inner) (flat_map (λ (member : Depth → List Increase). member Inner) (map increases.increases members)) formed) in
      ap (λ (costs : List Cost). costs ++ flat_map (λ (costs : List Cost). costs) (map step.increases members)) here ∙ rest

  members-sound : (members : List Effect) → Each Sound members → (depth : Depth) → list_all is_formed (flat_map (λ (member : Depth → List Increase). member depth) (map increases.increases members)) ≡ true → (in_scope : List Name) →
      flat_map (λ member. member in_scope) (map scopes.in_effect members) ≡ [] → list_all is_sound_mention (flat_map (λ mentions. mentions) (map in_effect members)) ≡ true → Each (CostSound in_scope) (flat_map (λ (costs : List Cost). costs) (map step.increases members))
  members-sound [] each depth formed in_scope unbound mentioned = tt
  members-sound (member ∷ members) each depth formed in_scope unbound mentioned =
      each_both (CostSound in_scope) (step.increases member) (flat_map (λ (costs : List Cost). costs) (map step.increases members))
      (each.0.1 depth (all-left is_formed (increases.increases member depth) (flat_map (λ (member : Depth → List Increase). member depth) (map increases.increases members)) formed) in_scope
      (left_empty (scopes.in_effect member in_scope) (flat_map (λ member. member in_scope) (map scopes.in_effect members)) unbound)
      (all-left is_sound_mention (in_effect member) (flat_map (λ mentions. mentions) (map in_effect members)) mentioned))
      (members-sound members each.1 depth (all-right is_formed (increases.increases member depth) (flat_map (λ (member : Depth → List Increase). member depth) (map increases.increases members)) formed) in_scope
      (right_empty (scopes.in_effect member in_scope) (flat_map (λ member. member in_scope) (map scopes.in_effect members)) unbound)
      (all-right is_sound_mention (in_effect member) (flat_map (λ mentions. mentions) (map in_effect members)) mentioned))

  increase-sound : (term : Atom) (cost : Cost) (at : At) → IncreasesSound (step.increases_step (Effect-F.Increase term cost at)) (increases.increases_step (Effect-F.Increase term cost at)) (scopes.effect_step (Effect-F.Increase term cost at)) (effect_step (Effect-F.Increase term cost at))
  increase-sound term cost at = ((λ formed. absurd (false≢true formed)), λ depth formed in_scope unbound mentioned. (by cost depth formed in_scope unbound mentioned, tt))
    where
      formed-proper : (cost : Cost) (depth : Depth) → list_all is_formed (increases.increases_step (Effect-F.Increase term cost at) depth) ≡ true → not (increases.is_total_cost_term cost) ≡ true
      formed-proper cost depth formed =
          let one = (and_parts (increases.may_stand depth && increases.is_proper term cost) true formed).0 in
          let proper = (and_parts (increases.may_stand depth) (increases.is_proper term cost) one).1 in
          (and_parts (is_same term.predicate.name total_cost) (not (increases.is_total_cost_term cost)) proper).1

      by : (cost : Cost) (depth : Depth) → list_all is_formed (increases.increases_step (Effect-F.Increase term cost at) depth) ≡ true → (in_scope : List Name) → scopes.effect_step (Effect-F.Increase term cost at) in_scope ≡ [] →
          list_all is_sound_mention (effect_step (Effect-F.Increase term cost at)) ≡ true → CostSound in_scope cost
      by (pddl_costs.Number number) depth formed in_scope unbound mentioned = tt
      by (pddl_costs.Term function) depth formed in_scope unbound mentioned =
          let not_total = not-true (is_same function.predicate.name total_cost) (formed-proper (pddl_costs.Term function) depth formed) in
          let second = (and_parts (is_sound_mention (Function function)) true (and_parts (is_sound_mention (Function term)) (is_sound_mention (Function function) && true) mentioned).1).0 in
          let sides = and_parts (is_known_mention domain problem (Function function)) (is_function_mention domain problem (Function function)) second in (
            right_empty (scopes.unbound_terms in_scope term.terms) (scopes.unbound_terms in_scope function.terms) unbound,
            sides.0,
            declared-function function.predicate.name (and_parts (names.is_function domain function.predicate.name) true sides.1).0 not_total,
            not_total,
          )

  costs-sound : (effect : Effect) → Sound effect
  costs-sound = by_folds (List Cost) (Depth → List Increase) (scopes.Scope → List At) (List Mention) step.increases_step increases.increases_step scopes.effect_step effect_step IncreasesSound record {
    at_nothing = λ at. ((λ formed. refl), λ depth formed in_scope unbound mentioned. tt);
    at_add = λ atom. ((λ formed. refl), λ depth formed in_scope unbound mentioned. tt);
    at_delete = λ atom. ((λ formed. refl), λ depth formed in_scope unbound mentioned. tt);
    at_and = λ members at held. (none-inner members held, λ depth formed in_scope unbound mentioned. members-sound members held (increases.joined_depth depth) formed in_scope unbound mentioned);
    at_when = λ condition inside at held.
        ((λ formed. held.0 formed), λ depth formed in_scope unbound mentioned. subst (Each (CostSound in_scope)) (sym (held.0 formed)) tt);
    at_forall = λ variables inside at held.
        ((λ formed. held.0 formed), λ depth formed in_scope unbound mentioned. subst (Each (CostSound in_scope)) (sym (held.0 formed)) tt);
    at_increase = increase-sound;
  }

  all-formed : (list : List Increase) → increases.ill_formed list ≡ [] → list_all is_formed list ≡ true
  all-formed [] none = refl
  all-formed (increase ∷ []) none = by increase.is_formed refl none
    where
      by : (b : Bool) → increase.is_formed ≡ b → ((if b then [] else increase.at ∷ []) ++ []) ≡ [] → (increase.is_formed && true) ≡ true
      by true e none = ap (λ b. b && true) e
      by false e none = absurd cc
  all-formed (increase ∷ other ∷ more) none = absurd (some (if increase.is_formed then [] else increase.at ∷ []) none)
    where
      some : (xs : List At) → xs ++ (other.at ∷ map (λ (other : Increase). other.at) more) ≡ [] → ⊥
      some [] none = cc
      some (x ∷ xs) none = cc

  module _ (none : check_faults domain problem ≡ []) where
    abbrev function_row : Row
    function_row = row kinds.UnknownFunction (names.unknown_functions domain (in_domain domain)) (names.unknown_functions domain (in_problem problem))

    functions : (list_all (is_function_mention domain problem) (in_domain domain) ≡ true) × (list_all (is_function_mention domain problem) (in_problem problem) ≡ true)
    functions =
        let positions = row_empty domain problem none function_row (inr (inr (inr (inr (inl refl))))) in
        (functions_known domain problem (in_domain domain) positions.0, functions_known domain problem (in_problem problem) positions.1)

    -- ---- the values of the initial state

    value-known : (entry : Init) → AreKnown domain problem (in_init entry) → list_all (is_function_mention domain problem) (in_init entry) ≡ true → scopes.in_init entry ≡ [] → is_known_value entry ≡ true
    value-known (inits.Holds atom) mentioned function bound = refl
    value-known (inits.HoldsNot atom at) mentioned function bound = refl
    value-known (inits.Value term value at) mentioned function bound =
        let mention = (and_parts (is_known_mention domain problem (Function term)) true mentioned).0 in
        let use_it = (and_parts (is_function_mention domain problem (Function term)) true function).0 in
        and_from (names.is_function domain term.predicate.name) (list_all (is_known domain problem) (holds.ground [] term).objects)
        (and_parts (names.is_function domain term.predicate.name) true use_it).0
        (terms-objects domain problem [] [] [] term.terms mention (λ name is. absurd (false≢true (terms-bound [] term.terms bound name is)))).1

    values-known : (entries : List Init) → AreKnown domain problem (flat_map in_init entries) → list_all (is_function_mention domain problem) (flat_map in_init entries) ≡ true → flat_map scopes.in_init entries ≡ [] → list_all is_known_value entries ≡ true
    values-known [] mentioned function bound = refl
    values-known (entry ∷ entries) mentioned function bound =
        and_from (is_known_value entry) (list_all is_known_value entries)
        (value-known entry (all-left (is_known_mention domain problem) (in_init entry) (flat_map in_init entries) mentioned) (all-left (is_function_mention domain problem) (in_init entry) (flat_map in_init entries) function) (left_empty (scopes.in_init entry) (flat_map scopes.in_init entries) bound))
        (values-known entries (all-right (is_known_mention domain problem) (in_init entry) (flat_map in_init entries) mentioned) (all-right (is_function_mention domain problem) (in_init entry) (flat_map in_init entries) function) (right_empty (scopes.in_init entry) (flat_map scopes.in_init entries) bound))

    init-values : list_all is_known_value problem.init ≡ true
    init-values =
        values-known problem.init (all-left (is_known_mention domain problem) (flat_map in_init problem.init) (in_condition problem.goal) (known_in_problem domain problem none))
        (all-left (is_function_mention domain problem) (flat_map in_init problem.init) (in_condition problem.goal) functions.1) (left_empty (flat_map scopes.in_init problem.init) (scopes.in_condition problem.goal []) (unbound_rows domain problem none).1)

    -- ---- the cost of an action

    cost-value : (in_scope : List Name) (scope : Scope) (named : pddl.Binding) (binding extra : Binding) → StandAll domain problem in_scope scope named binding → (cost : Cost) → CostSound in_scope cost →
        task.value_of (planning domain problem) (binding ++ extra) (cost_row domain problem scope cost) ≡ step.value_of problem.init named cost
    cost-value in_scope scope named binding extra stand (pddl_costs.Number number) sound = refl
    cost-value in_scope scope named binding extra stand (pddl_costs.Term term) sound =
        let there = terms-objects domain problem scope named (binding ++ extra) term.terms sound.1 (λ name is. longer domain problem scope named binding extra name (stand name (terms-bound in_scope term.terms sound.0 name is))) in
        ap (task.value_in (planning domain problem).values (function_number domain term.predicate.name)) there.0
        ∙ once-value domain problem (function_number domain term.predicate.name) (map (num domain problem) (holds.ground named term).objects) (flat_map (value_row domain problem) problem.init) [] refl
        ∙ same-values problem.init init-values (holds.ground named term) sound.2 sound.3 there.1

    costs-value : (in_scope : List Name) (scope : Scope) (named : pddl.Binding) (binding extra : Binding) → StandAll domain problem in_scope scope named binding → (costs : List Cost) → Each (CostSound in_scope) costs →
        task.value_of (planning domain problem) (binding ++ extra) (increase_row domain problem scope costs) ≡ step.total problem.init named costs
    costs-value in_scope scope named binding extra stand [] sound = refl
    costs-value in_scope scope named binding extra stand (cost ∷ more) sound = cost-value in_scope scope named binding extra stand cost sound.0

    pub same-cost : (action : Action) → Among action domain.actions → (objects : List Name) → Among objects (pddl.choices domain problem action.parameters) → (extra : List ℕ) →
        task.value_of (planning domain problem) (map (num domain problem) objects ++ extra) (action_cost domain problem action) ≡ step.action_cost problem (pddl.bound action.parameters objects []) action
    same-cost action among objects chosen extra = by problem.metric
      where
        in_scope : List Name
        in_scope = scopes.inside_of action.parameters []

        stand : StandAll domain problem (scopes.inside_of action.parameters []) (parameter_scope domain problem action.parameters) (pddl.bound action.parameters objects []) (map (num domain problem) objects)
        stand name inside = inside-stands domain problem action.parameters objects 0 [] [] [] name refl chosen (λ unlisted. absurd (false≢true (in-inside action.parameters [] name inside unlisted)))

        formed : list_all is_formed (increases.increases action.effect Outermost) ≡ true
        formed =
            all-formed (increases.increases action.effect Outermost)
            (piece_empty (λ action. increases.ill_formed (increases.increases action.effect Outermost)) domain.actions
            (row_empty domain problem none (row kinds.CostForm (increases.in_domain domain) []) (inr (inr (inr (inr (inr (inr (inr (inr (inr (inr (inr (inr (inl refl)))))))))))))).0 action among)

        sound_mentions : list_all is_sound_mention (in_effect action.effect) ≡ true
        sound_mentions =
            all-both_tests (is_known_mention domain problem) (is_function_mention domain problem) (in_effect action.effect)
            (all-right (is_known_mention domain problem) (in_condition action.precondition) (in_effect action.effect) (and_parts (true && true) _ (action_mentioned domain problem none action among)).1)
            (all-right (is_function_mention domain problem) (in_condition action.precondition) (in_effect action.effect)
            (and_parts true _ (in_each_action domain problem none (is_function_mention domain problem) functions.0 action among)).1)

        sound : Each (CostSound (scopes.inside_of action.parameters [])) (step.increases action.effect)
        sound =
            (costs-sound action.effect).1 Outermost formed (scopes.inside_of action.parameters [])
            (right_empty (scopes.in_condition action.precondition (scopes.inside_of action.parameters [])) (scopes.in_effect action.effect (scopes.inside_of action.parameters [])) (action_bound domain problem none action among)) sound_mentions

        by : (metric : Bool) → task.value_of (planning domain problem) (map (num domain problem) objects ++ extra) (if metric then increase_row domain problem (parameter_scope domain problem action.parameters) (step.increases action.effect) else costs.Number 1)
            ≡ (if metric then step.total problem.init (pddl.bound action.parameters objects []) (step.increases action.effect) else Some 1)
        by true = costs-value (scopes.inside_of action.parameters []) (parameter_scope domain problem action.parameters) (pddl.bound action.parameters objects []) (map (num domain problem) objects) extra stand (step.increases action.effect) sound
        by false = refl
