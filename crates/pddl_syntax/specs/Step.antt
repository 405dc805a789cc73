-- Steps: an action with objects, what it adds and deletes, and what it costs (PDDL 2.2, effects; PDDL 3.1, action costs).
use Rattle.std.specs.Prelude.{ℕ, Bool, false, not, ◌&&◌, List, [], ◌∷◌, ◌++◌, map, Option, Some, None, if◌then◌else◌}
use Rattle.std.specs.List.{list_any, flat_map}
use Rattle.pddl_syntax.specs.declared.types.Action.{Action}
use Rattle.pddl_syntax.specs.declared.types.Cost.{Cost}
use Rattle.pddl_syntax.specs.declared.types.Cost.TheVariants.{Number, Term}
use Rattle.pddl_syntax.specs.declared.types.Domain.{Domain}
use Rattle.pddl_syntax.specs.declared.types.Effect.{Effect, Effect-F, fold-Effect}
use Rattle.pddl_syntax.specs.declared.types.Init.{Init}
use Rattle.pddl_syntax.specs.declared.types.Init.TheVariants.{Holds, HoldsNot, Value}
use Rattle.pddl_syntax.specs.declared.types.Problem.{Problem}
use Rattle.pddl_syntax.specs.Words.{Name}
use Rattle.pddl_syntax.specs.Objects.{Binding, bound, choices}
use Rattle.pddl_syntax.specs.Holds.{GroundAtom, is_same_atom, State, ground, holds}

-- ---- what an effect adds and deletes

-- One layer of an effect. In place of each effect inside stand the atoms that it writes, which depend on the binding. The atoms written are those added, or those deleted, as `adds` says.
abbrev pub writes_step : Domain → Problem → State → Bool → Effect-F (Binding → State) → Binding → State
writes_step domain problem state adds (Effect-F.Nothing at) binding atom = false
writes_step domain problem state adds (Effect-F.Add added) binding atom = adds && is_same_atom (ground binding added) atom
writes_step domain problem state adds (Effect-F.Delete deleted) binding atom = not adds && is_same_atom (ground binding deleted) atom
writes_step domain problem state adds (Effect-F.And members at) binding atom = list_any (λ member. member binding atom) members
writes_step domain problem state adds (Effect-F.When condition inside at) binding atom = holds domain problem state condition binding && inside binding atom
writes_step domain problem state adds (Effect-F.Forall variables inside at) binding atom =
    list_any (λ names. inside (bound variables names binding) atom) (choices domain problem variables)
writes_step domain problem state adds (Effect-F.Increase term cost at) binding atom = false

-- the atoms that the effect adds, or deletes: those whose `when` conditions hold in the state before, which has the derived atoms too, for all objects of the `forall`s around them
abbrev pub writes : Domain → Problem → State → Bool → Effect → Binding → State
writes domain problem state adds = fold-Effect (Binding → State) (writes_step domain problem state adds)

-- ---- costs

-- One layer of an effect, with the costs of the increases in place of each effect inside.
abbrev pub increases_step : Effect-F (List Cost) → List Cost
increases_step (Effect-F.Nothing at) = []
increases_step (Effect-F.Add atom) = []
increases_step (Effect-F.Delete atom) = []
increases_step (Effect-F.And members at) = flat_map (λ costs. costs) members
increases_step (Effect-F.When condition inside at) = inside
increases_step (Effect-F.Forall variables inside at) = inside
increases_step (Effect-F.Increase term cost at) = cost ∷ []

-- the costs of the effect's increases; a task without faults has one at most
abbrev pub increases : Effect → List Cost
increases = fold-Effect (List Cost) increases_step

-- the value that `:init` gives the function term, or None where it gives none
abbrev pub value_in : List Init → GroundAtom → Option ℕ
value_in [] term = None
value_in (Holds atom ∷ more) term = value_in more term
value_in (HoldsNot atom at ∷ more) term = value_in more term
value_in (Value known value at ∷ more) term = if is_same_atom (ground [] known) term then Some value else value_in more term

-- the number, or the value of the term
abbrev pub value_of : List Init → Binding → Cost → Option ℕ
value_of init binding (Number value) = Some value
value_of init binding (Term term) = value_in init (ground binding term)

-- the increase, or 0 without one
abbrev pub total : List Init → Binding → List Cost → Option ℕ
total init binding [] = Some 0
total init binding (cost ∷ more) = value_of init binding cost

-- What an action costs: without the metric 1, and increases are ignored; with it its increase, or 0 without one, and None where the cost term has no value.
abbrev pub action_cost : Problem → Binding → Action → Option ℕ
action_cost problem binding action = if problem.metric then total problem.init binding (increases action.effect) else Some 1

-- ---- steps

-- an action with an object for each parameter
pub record Step : Type 0 where
  pub action : Action
  pub objects : List Name

-- the steps of an action: with each choice of objects that have the types of its parameters
abbrev pub steps_of : Domain → Problem → Action → List Step
steps_of domain problem action = map (λ objects. record { action = action; objects = objects }) (choices domain problem action.parameters)

-- the action's name and the objects, joined by single spaces
abbrev pub shown : Name → List Name → Name
shown name objects = name ++ flat_map (λ object. 32 ∷ object) objects

-- the name of the step
abbrev pub name_of : Step → Name
name_of step = shown step.action.name.name step.objects

-- each parameter stands for its object
abbrev pub binding_of : Step → Binding
binding_of step = bound step.action.parameters step.objects []
