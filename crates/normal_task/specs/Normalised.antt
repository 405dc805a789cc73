-- The normal task of a domain and a problem (Helmert 2009, section 4).
use Rattle.std.specs.Prelude.{ℕ, suc, ◌+◌, Bool, true, false, not, ◌&&◌, ◌==◌, List, [], ◌∷◌, ◌++◌, map, length, codes, if◌then◌else◌}
use Rattle.std.specs.Fmt.{decimal}
use Rattle.std.specs.List.{list_any, flat_map}
use Rattle.pddl_syntax.specs.declared.types.Action.{Action}
use Rattle.pddl_syntax.specs.declared.types.Atom.{Atom}
use Rattle.pddl_syntax.specs.declared.types.Cost.{Cost}
use Rattle.pddl_syntax.specs.declared.types.Cost.TheVariants as pddl_costs
use Rattle.pddl_syntax.specs.declared.types.Derived.{Derived}
use Rattle.pddl_syntax.specs.declared.types.Domain.{Domain}
use Rattle.pddl_syntax.specs.declared.types.Effect.{Effect, Effect-F, fold-Effect}
use Rattle.pddl_syntax.specs.declared.types.Head.{Head}
use Rattle.pddl_syntax.specs.declared.types.Init.{Init}
use Rattle.pddl_syntax.specs.declared.types.Init.TheVariants as inits
use Rattle.pddl_syntax.specs.declared.types.Problem.{Problem}
use Rattle.pddl_syntax.specs.declared.types.Typed.{Typed}
use Rattle.pddl_syntax.specs.Words.{Name, is_same}
use Rattle.pddl_syntax.specs.Holds as pddl
use Rattle.pddl_syntax.specs.Step.{increases}
use Rattle.fault_positions.specs.Mentions.{in_effect, written_predicates}
use Rattle.normal_task.specs.declared.task.AxiomRow.{AxiomRow}
use Rattle.normal_task.specs.declared.task.CostRow.{CostRow}
use Rattle.normal_task.specs.declared.task.CostRow.TheVariants as costs
use Rattle.normal_task.specs.declared.task.EffectRow.{EffectRow}
use Rattle.normal_task.specs.declared.task.GroundAtom.{GroundAtom}
use Rattle.normal_task.specs.declared.task.Literal.{Literal}
use Rattle.normal_task.specs.declared.task.Literal.TheVariants.{Holds}
use Rattle.normal_task.specs.declared.task.Normal.{Normal}
use Rattle.normal_task.specs.declared.task.PredicateRow.{PredicateRow}
use Rattle.normal_task.specs.declared.task.Schema.{Schema}
use Rattle.normal_task.specs.declared.task.ValueRow.{ValueRow}
use Rattle.normal_task.specs.Numbers.{object_names, object_number, predicate_number, function_number, ranges_of}
use Rattle.normal_task.specs.Meaning.{is_same_atom, is_same_value}
use Rattle.normal_task.specs.Parts.{Scope, Part, Fresh, Made, in_turn, all_of, moved_place, moved, scope_inside, places_of, fresh_number, parts}

module _ (domain : Domain) (problem : Problem) where
  -- ---- effects

  -- The effects of something, where these conditions are required around it: in this scope, with so many variables around, and with this number for the first new predicate. A condition is cut once the variables around the whole are known.
  abbrev pub Rows : Type 0
  Rows = List (ℕ → ℕ → Made Part) → Scope → (around : ℕ) → (next : ℕ) → Made EffectRow

  abbrev pub effect_row : Bool → Atom → Scope → Part → EffectRow
  effect_row adds atom scope part =
      record {
        variables = part.variables;
        condition = part.literals;
        adds = adds;
        predicate = predicate_number domain atom.predicate.name;
        places = places_of domain problem scope atom.terms;
      }

  -- an atom is written for each part of what is required
  abbrev pub written : Bool → Atom → Rows
  written adds atom required scope around next =
      record {
        items = map (effect_row adds atom scope) (all_of around (map (λ cut. cut around) required) next).items;
        fresh = (all_of around (map (λ cut. cut around) required) next).fresh;
      }

  abbrev pub row_with_variables : List (List ℕ) → EffectRow → EffectRow
  row_with_variables variables row =
      record { variables = variables ++ row.variables; condition = row.condition; adds = row.adds; predicate = row.predicate; places = row.places }

  -- some objects of the variables make an effect
  abbrev pub for_each : List Typed → Rows → Rows
  for_each variables inside required scope around next =
      record {
        items = map (row_with_variables (ranges_of domain problem variables))
            (inside required (scope_inside domain problem variables around scope) (around + length variables) next).items;
        fresh = (inside required (scope_inside domain problem variables around scope) (around + length variables) next).fresh;
      }

  abbrev pub row_step : Effect-F Rows → Rows
  row_step (Effect-F.Nothing at) required scope around next = in_turn [] next
  row_step (Effect-F.Add atom) required scope around next = written true atom required scope around next
  row_step (Effect-F.Delete atom) required scope around next = written false atom required scope around next
  row_step (Effect-F.And members at) required scope around next = in_turn (map (λ member. member required scope around) members) next
  row_step (Effect-F.When condition inside at) required scope around next =
      inside (required ++ (λ around. parts domain problem condition true scope around) ∷ []) scope around next
  row_step (Effect-F.Forall variables inside at) required scope around next = for_each variables inside required scope around next
  row_step (Effect-F.Increase term cost at) required scope around next = in_turn [] next

  abbrev pub rows_of : Effect → Rows
  rows_of = fold-Effect Rows row_step

  -- ---- actions

  abbrev pub parameter_scope : List Typed → Scope
  parameter_scope parameters = scope_inside domain problem parameters 0 []

  abbrev pub cost_row : Scope → Cost → CostRow
  cost_row scope (pddl_costs.Number number) = costs.Number number
  cost_row scope (pddl_costs.Term term) = costs.Term (function_number domain term.predicate.name) (places_of domain problem scope term.terms)

  -- the increase, or 0 without one
  abbrev pub increase_row : Scope → List Cost → CostRow
  increase_row scope [] = costs.Number 0
  increase_row scope (cost ∷ more) = cost_row scope cost

  abbrev pub action_cost : Action → CostRow
  action_cost action = if problem.metric then increase_row (parameter_scope action.parameters) (increases action.effect) else costs.Number 1

  -- the variables of a part of the precondition stand before those of the effect
  abbrev pub moved_row : ℕ → ℕ → EffectRow → EffectRow
  moved_row from by row =
      record { variables = row.variables; condition = map (moved from by) row.condition; adds = row.adds; predicate = row.predicate; places = map (moved_place from by) row.places }

  abbrev pub schema : Action → List EffectRow → Part → Schema
  schema action rows part =
      record {
        action = action.name.name;
        shown = length action.parameters;
        parameters = ranges_of domain problem action.parameters ++ part.variables;
        condition = part.literals;
        effects = map (moved_row (length action.parameters) (length part.variables)) rows;
        cost = action_cost action;
      }

  abbrev pub precondition_parts : Action → (next : ℕ) → Made Part
  precondition_parts action next = parts domain problem action.precondition true (parameter_scope action.parameters) (length action.parameters) next

  abbrev pub effect_rows : Action → (next : ℕ) → Made EffectRow
  effect_rows action next = rows_of action.effect [] (parameter_scope action.parameters) (length action.parameters) next

  -- a schema for each part of the precondition, which all have the same effects
  abbrev pub schemas_with : Action → Made Part → Made EffectRow → Made Schema
  schemas_with action precondition effects =
      record { items = map (schema action effects.items) precondition.items; fresh = precondition.fresh ++ effects.fresh }

  abbrev pub schemas : Action → (next : ℕ) → Made Schema
  schemas action next =
      schemas_with action (precondition_parts action next) (effect_rows action (next + length (precondition_parts action next).fresh))

  -- ---- axioms

  -- a part of an axiom of the predicate, whose arguments range over these lists
  abbrev pub axiom_row : ℕ → List (List ℕ) → Part → AxiomRow
  axiom_row predicate arguments part =
      record { predicate = predicate; shown = length arguments; parameters = arguments ++ part.variables; condition = part.literals }

  abbrev pub body_parts : Derived → (next : ℕ) → Made Part
  body_parts rule next = parts domain problem rule.body true (parameter_scope rule.head.variables) (length rule.head.variables) next

  abbrev pub axiom_rows : Derived → (next : ℕ) → Made AxiomRow
  axiom_rows rule next =
      record {
        items = map (axiom_row (predicate_number domain rule.head.name.name) (ranges_of domain problem rule.head.variables)) (body_parts rule next).items;
        fresh = (body_parts rule next).fresh;
      }

  -- the axioms of new predicates that are numbered on from here
  abbrev pub fresh_rows : ℕ → List Fresh → List AxiomRow
  fresh_rows next [] = []
  fresh_rows next (fresh ∷ more) = map (axiom_row (fresh_number domain problem next) fresh.arguments) fresh.parts ++ fresh_rows (suc next) more

  -- ---- the goal

  -- a new derived atom, whose axioms have the goal's parts
  abbrev pub goal_atom : Made Part → (next : ℕ) → Made Literal
  goal_atom goal next =
      record {
        items = Holds true (fresh_number domain problem (next + length goal.fresh)) [] ∷ [];
        fresh = goal.fresh ++ record { arguments = []; parts = goal.items } ∷ [];
      }

  -- the literals of the only part, if it has no variables, or else a new derived atom
  abbrev pub goal_of : Made Part → List Part → (next : ℕ) → Made Literal
  goal_of goal [] next = goal_atom goal next
  goal_of goal (part ∷ []) next = if length part.variables == 0 then record { items = part.literals; fresh = goal.fresh } else goal_atom goal next
  goal_of goal (part ∷ other ∷ more) next = goal_atom goal next

  -- ---- the initial state and the values

  abbrev pub numbered_atom : pddl.GroundAtom → GroundAtom
  numbered_atom atom = record { predicate = predicate_number domain atom.predicate; objects = map (object_number domain problem) atom.objects }

  abbrev pub stated : Init → List GroundAtom
  stated (inits.Holds atom) = numbered_atom (pddl.ground [] atom) ∷ []
  stated (inits.HoldsNot atom at) = []
  stated (inits.Value term value at) = []

  -- each item once, where it stands first
  abbrev pub once_after : {A : Type 0} → (A → A → Bool) → List A → List A → List A
  once_after {A} same before [] = []
  once_after {A} same before (item ∷ more) = if list_any (same item) before then once_after same before more else item ∷ once_after same (item ∷ before) more

  abbrev pub value_row : Init → List ValueRow
  value_row (inits.Holds atom) = []
  value_row (inits.HoldsNot atom at) = []
  value_row (inits.Value term value at) =
      if is_same term.predicate.name (codes "total-cost") then []
      else
      record {
        function = function_number domain term.predicate.name;
        objects = map (object_number domain problem) (pddl.ground [] term).objects;
        value = value;
      }
      ∷ []

  -- ---- predicates

  -- some action of the domain has an effect on the predicate, whether the action has a schema or not
  abbrev pub is_changed : Name → Bool
  is_changed predicate = list_any (λ action. list_any (λ mention. list_any (λ named. is_same named.name predicate) (written_predicates mention)) (in_effect action.effect)) domain.actions

  -- a predicate is fixed where it isn't derived and no effect of the domain is on it
  abbrev pub declared_row : Head → PredicateRow
  declared_row head =
      record {
        name = head.name.name;
        arity = length head.variables;
        derived = pddl.is_derived domain head.name.name;
        fixed = not (pddl.is_derived domain head.name.name) && not (is_changed head.name.name);
      }

  -- ---- the task

  abbrev pub made_schemas : Made Schema
  made_schemas = in_turn (map schemas domain.actions) 0

  abbrev pub after_schemas : ℕ
  after_schemas = length made_schemas.fresh

  abbrev pub made_axioms : Made AxiomRow
  made_axioms = in_turn (map axiom_rows domain.axioms) after_schemas

  abbrev pub after_axioms : ℕ
  after_axioms = after_schemas + length made_axioms.fresh

  abbrev pub goal_parts : Made Part
  goal_parts = parts domain problem problem.goal true [] 0 after_axioms

  abbrev pub made_goal : Made Literal
  made_goal = goal_of goal_parts goal_parts.items after_axioms

  -- all new predicates, in the order of their numbers
  abbrev pub all_fresh : List Fresh
  all_fresh = made_schemas.fresh ++ (made_axioms.fresh ++ made_goal.fresh)

  -- the rows of the new predicates, numbered on from here
  abbrev pub fresh_predicates : ℕ → List Fresh → List PredicateRow
  fresh_predicates next [] = []
  fresh_predicates next (fresh ∷ more) =
      record { name = codes "new-axiom@" ++ decimal next; arity = length fresh.arguments; derived = true; fixed = false } ∷ fresh_predicates (suc next) more

  -- the normal task of the domain and the problem
  abbrev pub normal : Normal
  normal =
      record {
        objects = object_names domain problem;
        predicates = map declared_row domain.predicates ++ fresh_predicates 0 all_fresh;
        schemas = made_schemas.items;
        axioms = made_axioms.items ++ fresh_rows 0 all_fresh;
        init = once_after is_same_atom [] (flat_map stated problem.init);
        values = once_after is_same_value [] (flat_map value_row problem.init);
        goal = made_goal.items;
        metric = problem.metric;
      }
