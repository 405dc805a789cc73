-- The schemas of a checked pair's normal task are lawful.
use Rattle.std.proofs.Common.{◌≡◌, ℕ, ◌+◌, ◌≤◌, Bool, true, false, ◌&&◌, ◌||◌, List, [], ◌∷◌, ◌++◌, map, length, refl, sym, ap, ◌∙◌, subst, arith}
use Rattle.std.specs.Prelude.{nat_le, ◌==◌, All, if◌then◌else◌}
use Rattle.std.specs.List.{list_all}
use Rattle.std.proofs.lemmas.Bool.{and_parts, and_from, or_left, or_right, le-leb}
use Rattle.std.proofs.lemmas.List.Elements.{All-head, All-contains}
use Rattle.pddl_syntax.specs.declared.types.Action.{Action}
use Rattle.pddl_syntax.specs.declared.types.Cost.{Cost}
use Rattle.pddl_syntax.specs.declared.types.Cost.TheVariants as pddl_costs
use Rattle.pddl_syntax.specs.declared.types.Domain.{Domain}
use Rattle.pddl_syntax.specs.declared.types.Problem.{Problem}
use Rattle.pddl_syntax.specs.Words.{Name}
use Rattle.pddl_syntax.specs.Spelled.{IsSpelled, IsSmall, HasSmallCosts, IsWellSpelled}
use Rattle.pddl_syntax.specs.Step.{increases}
use Rattle.pddl_syntax.proofs.ConditionCases.{Each}
use Rattle.fault_positions.specs.Mentions.{in_condition, in_effect}
use Rattle.fault_positions.specs.Scopes as scopes
use Rattle.type_checker.specs.Faults.{check_faults}
use Rattle.type_checker.proofs.Bound.{action_bound}
use Rattle.type_checker.proofs.NoFaults.{left_empty, right_empty}
use Rattle.type_checker.proofs.OneIncrease.{CostSound, costs_sound}
use Rattle.lists.proofs.Items.{Among, contains_among}
use Rattle.normal_task.specs.declared.task.CostRow.TheVariants as costs
use Rattle.normal_task.specs.declared.task.EffectRow.{EffectRow}
use Rattle.normal_task.specs.declared.task.Literal.TheVariants.{Holds}
use Rattle.normal_task.specs.declared.task.Normal.{Normal}
use Rattle.normal_task.specs.declared.task.Schema.{Schema}
use Rattle.normal_task.specs.Lawful.{most, is_word, is_range, is_place, is_literal, is_effect, is_cost, is_schema}
use Rattle.normal_task.specs.Numbers.{range_of, ranges_of}
use Rattle.normal_task.specs.Parts.{Scope, Part, place_of}
use Rattle.normal_task.specs.Normalised.{parameter_scope, increase_row, action_cost, moved_row, schema, precondition_parts, effect_rows, schemas, normal}
use Rattle.normal_task.proofs.Alls.{all-both, all-left, all-right, all-images}
use Rattle.normal_task.proofs.Bound.{free-bound, terms-bound}
use Rattle.normal_task.proofs.EffectsFit.{AllInScope, parameters-in_scope}
use Rattle.normal_task.proofs.Faultless.{action_mentioned}
use Rattle.normal_task.proofs.Fits.{part_fits, MadeFits, place_within, within-wider, terms-within, condition-fits}
use Rattle.normal_task.proofs.KnownEffects.{row-moved, RowsKnown, effect-known}
use Rattle.normal_task.proofs.KnownParts.{all-by_both, place_known, place-lawful, literal_known, literals-lawful, part_known, fresh_known, MadeKnown, ranges-known, inside-known, terms-known, well_mentioned, condition-known}
use Rattle.normal_task.proofs.Mentioned.{is_known_mention}
use Rattle.normal_task.proofs.NameWords.{spelled-word}
use Rattle.normal_task.proofs.PredicateTable.{HasRow, HaveRows, numbered-left, numbered-right}
use Rattle.normal_task.proofs.Scopes.{length-append, length-map}
use Rattle.normal_task.proofs.WellMentioned.{tables, action-well, action-changes}

module _ (domain : Domain) (problem : Problem) (none : check_faults domain problem ≡ []) where
  abbrev task : Normal
  task = normal domain problem

  abbrev base : ℕ
  base = length domain.predicates

  -- ---- costs

  -- the increase, for a bound that has room for the parameters
  increase-lawful : (in_scope : List Name) (scope : Scope) (around bound : ℕ) → around ≤ bound → AllInScope domain problem in_scope scope around → problem.metric ≡ true → (list : List Cost) →
      Each (CostSound domain problem in_scope) list → All IsSmall list → is_cost task bound (increase_row domain problem scope list) ≡ true
  increase-lawful in_scope scope around bound fewer names metric [] sound small =
      and_from (nat_le 0 most) (problem.metric || (0 == 1)) (le-leb 0 most (omega arith)) (or_left problem.metric (0 == 1) metric)
  increase-lawful in_scope scope around bound fewer names metric (pddl_costs.Number number ∷ more) sound small =
      and_from (nat_le number most) (problem.metric || (number == 1)) (le-leb number most (All-head IsSmall (pddl_costs.Number number) more small)) (or_left problem.metric (number == 1) metric)
  increase-lawful in_scope scope around bound fewer names metric (pddl_costs.Term term ∷ more) sound small =
      let places = map (place_of domain problem scope) term.terms in
      let within = terms-within domain problem scope around term.terms (λ name is. names name (terms-bound in_scope term.terms sound.0.0 name is)) in
      and_from problem.metric (list_all (is_place task bound) places) metric
      (all-by_both (place_within bound) (place_known task) (is_place task bound) (place-lawful task bound) places (within-wider around bound fewer (Holds true 0 places) within)
      (terms-known domain problem task (tables domain problem none) scope term.terms sound.0.1))

  cost-lawful : (action : Action) → Among action domain.actions → IsWellSpelled domain → (bound : ℕ) → length action.parameters ≤ bound → is_cost task bound (action_cost domain problem action) ≡ true
  cost-lawful action among spelled bound fewer = by problem.metric refl
    where
      small : All IsSmall (increases action.effect)
      small = All-contains HasSmallCosts domain.actions action spelled.costs (contains_among domain.actions action among)

      by : (metric : Bool) → problem.metric ≡ metric → is_cost task bound (if metric then increase_row domain problem (parameter_scope domain problem action.parameters) (increases action.effect) else costs.Number 1) ≡ true
      by true e =
          increase-lawful (scopes.inside_of action.parameters []) (parameter_scope domain problem action.parameters) (length action.parameters) bound fewer (parameters-in_scope domain problem action.parameters) e
          (increases action.effect) (costs_sound domain problem none action among) small
      by false e = and_from (nat_le 1 most) (problem.metric || (1 == 1)) (le-leb 1 most (omega arith)) (or_right problem.metric (1 == 1) refl)

  -- ---- actions

  module _ (action : Action) (among : Among action domain.actions) where
    abbrev scope : Scope
    scope = parameter_scope domain problem action.parameters

    abbrev count : ℕ
    count = length action.parameters

    abbrev in_scope : List Name
    in_scope = scopes.inside_of action.parameters []

    precondition-fits : (next : ℕ) → MadeFits base count next (precondition_parts domain problem action next)
    precondition-fits next =
        let bound = left_empty (scopes.in_condition action.precondition in_scope) (scopes.in_effect action.effect in_scope) (action_bound domain problem none action among) in
        condition-fits domain problem action.precondition
        (all-left (is_known_mention domain problem) (in_condition action.precondition) (in_effect action.effect) (and_parts (true && true) _ (action_mentioned domain problem none action among)).1) true scope count
        (λ name free. parameters-in_scope domain problem action.parameters name (free-bound domain problem action.precondition in_scope bound name free)) next

    precondition-known : (next : ℕ) → HaveRows task base next (precondition_parts domain problem action next).fresh → MadeKnown task (precondition_parts domain problem action next)
    precondition-known next rows =
        condition-known domain problem task (tables domain problem none) action.precondition
        (all-left (well_mentioned domain problem task (tables domain problem none)) (in_condition action.precondition) (in_effect action.effect) (and_parts (true && true) _ (action-well domain problem none action among)).1) true scope count
        (inside-known domain problem task (tables domain problem none) action.parameters 0 [] refl) next rows

    effects-known : (next : ℕ) → HaveRows task base next (effect_rows domain problem action next).fresh → RowsKnown domain problem task (tables domain problem none) count (effect_rows domain problem action next)
    effects-known next rows =
        effect-known domain problem task (tables domain problem none) action.effect [] in_scope scope count
        (right_empty (scopes.in_condition action.precondition in_scope) (scopes.in_effect action.effect in_scope) (action_bound domain problem none action among))
        record {
          declared = all-right (is_known_mention domain problem) (in_condition action.precondition) (in_effect action.effect) (and_parts (true && true) _ (action_mentioned domain problem none action among)).1;
          well = all-right (well_mentioned domain problem task (tables domain problem none)) (in_condition action.precondition) (in_effect action.effect) (and_parts (true && true) _ (action-well domain problem none action among)).1;
          changes = action-changes domain problem none action among;
          bound = parameters-in_scope domain problem action.parameters;
          ranges = inside-known domain problem task (tables domain problem none) action.parameters 0 [] refl;
          fit = tt;
          required_known = tt;
        } next rows

    abbrev ranges : List (List ℕ)
    ranges = ranges_of domain problem action.parameters

    schema-lawful : IsWellSpelled domain → (rows : List EffectRow) → list_all (is_effect task count) rows ≡ true → (next : ℕ) (part : Part) → part_fits base count next part ≡ true → part_known task part ≡ true →
        is_schema task (schema domain problem action rows part) ≡ true
    schema-lawful spelled rows lawful next part fit is =
        and_from (word && few && sorted && condition && effects) cost
        (and_from (word && few && sorted && condition) effects
        (and_from (word && few && sorted) condition (and_from (word && few) sorted (and_from word few is_word_name (le-leb count total (omega (arith, size)))) are_sorted) is_condition) are_effects)
        (cost-lawful action among spelled total (omega (arith, size)))
      where
        made : Schema
        made = schema domain problem action rows part

        total : ℕ
        total = length (ranges_of domain problem action.parameters ++ part.variables)

        size : length action.parameters + length part.variables ≡ length (ranges_of domain problem action.parameters ++ part.variables)
        size =
            ap (λ (n : ℕ). n + length part.variables) (sym (length-map (range_of domain problem) action.parameters)) ∙ sym (length-append (ranges_of domain problem action.parameters) part.variables)

        word : Bool
        word = is_word action.name.name

        few : Bool
        few = nat_le (length action.parameters) (length (ranges_of domain problem action.parameters ++ part.variables))

        sorted : Bool
        sorted = list_all (is_range task) (ranges_of domain problem action.parameters ++ part.variables)

        condition : Bool
        condition = list_all (is_literal task (length (ranges_of domain problem action.parameters ++ part.variables))) part.literals

        effects : Bool
        effects = list_all (is_effect task (length (ranges_of domain problem action.parameters ++ part.variables))) (map (moved_row domain problem (length action.parameters) (length part.variables)) rows)

        cost : Bool
        cost = is_cost task (length (ranges_of domain problem action.parameters ++ part.variables)) (action_cost domain problem action)

        sides : (list_all (is_range task) part.variables ≡ true) × (list_all (literal_known task) part.literals ≡ true)
        sides = and_parts (list_all (is_range task) part.variables) (list_all (literal_known task) part.literals) is

        is_word_name : is_word action.name.name ≡ true
        is_word_name = spelled-word action.name (All-contains (λ (a : Action). IsSpelled a.name) domain.actions action spelled.actions (contains_among domain.actions action among))

        are_sorted : list_all (is_range task) (ranges_of domain problem action.parameters ++ part.variables) ≡ true
        are_sorted = all-both (is_range task) (ranges_of domain problem action.parameters) part.variables (ranges-known domain problem task (tables domain problem none) action.parameters) sides.0

        is_condition : list_all (is_literal task (length (ranges_of domain problem action.parameters ++ part.variables))) part.literals ≡ true
        is_condition =
            subst (λ (n : ℕ). list_all (is_literal task n) part.literals ≡ true) size (literals-lawful task base (length action.parameters + length part.variables) next part.literals fit sides.1)

        are_effects : list_all (is_effect task (length (ranges_of domain problem action.parameters ++ part.variables))) (map (moved_row domain problem (length action.parameters) (length part.variables)) rows) ≡ true
        are_effects =
            subst (λ (n : ℕ). list_all (is_effect task n) (map (moved_row domain problem (length action.parameters) (length part.variables)) rows) ≡ true) size
            (all-images (is_effect task (length action.parameters)) (is_effect task (length action.parameters + length part.variables)) (moved_row domain problem (length action.parameters) (length part.variables))
            (row-moved task domain problem (length action.parameters) (length part.variables)) rows lawful)

    pub schemas-lawful : IsWellSpelled domain → (next : ℕ) → HaveRows task base next (schemas domain problem action next).fresh →
        (list_all (is_schema task) (schemas domain problem action next).items ≡ true) × (list_all (fresh_known task) (schemas domain problem action next).fresh ≡ true)
    schemas-lawful spelled next rows =
        let first = precondition_parts domain problem action next in
        let later = next + length first.fresh in
        let second = effect_rows domain problem action later in
        let fit = precondition-fits next in
        let is = precondition-known next (numbered-left (HasRow task base) next first.fresh second.fresh rows) in
        let effects = effects-known later (numbered-right (HasRow task base) next first.fresh second.fresh rows) in
        let test : Part → Bool = λ part. is_schema task (schema domain problem action second.items part) in (
          all-images test (is_schema task) (schema domain problem action second.items) (λ part one. one) first.items
              (all-by_both (part_fits base count next) (part_known task) test (schema-lawful spelled second.items effects.items next) first.items fit.items is.items),
          all-both (fresh_known task) first.fresh second.fresh is.fresh effects.fresh,
        )
