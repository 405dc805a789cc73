-- Plans: steps that lead from the initial state to the goal (PDDL 2.2; of PDDL 3.1 the total cost).
use Rattle.std.specs.Prelude.{ℕ, Bool, true, false, List, []}
use Rattle.std.specs.List.{list_any, flat_map}
use Rattle.planning.specs.Task.{PlanningTask}
use Rattle.planning.specs.Plan as planning
use Rattle.pddl_syntax.specs.declared.types.Domain.{Domain}
use Rattle.pddl_syntax.specs.declared.types.Init.{Init}
use Rattle.pddl_syntax.specs.declared.types.Init.TheVariants.{Holds, HoldsNot, Value}
use Rattle.pddl_syntax.specs.declared.types.Problem.{Problem}
use Rattle.pddl_syntax.specs.Words.{Name}
use Rattle.pddl_syntax.specs.Holds.{GroundAtom, is_same_atom, State, ground, holds, is_derived, derives}
use Rattle.pddl_syntax.specs.Step.{Step, steps_of, name_of, binding_of, action_cost, writes}

-- the entry of `:init` states the atom; `(not A)` and values state none
abbrev pub is_stated : GroundAtom → Init → Bool
is_stated atom (Holds known) = is_same_atom (ground [] known) atom
is_stated atom (HoldsNot known at) = false
is_stated atom (Value term value at) = false

-- the initial state: the atoms that `:init` states, and no others
abbrev pub initial : Problem → State
initial problem atom = list_any (is_stated atom) problem.init

-- the domain and the problem as a planning task
abbrev pub pddl_task : Domain → Problem → PlanningTask GroundAtom Step
pddl_task domain problem =
    record {
      is_derived = λ atom. is_derived domain atom.predicate;
      is_given = λ full atom. list_any (derives domain problem full atom) domain.axioms;
      steps = flat_map (steps_of domain problem) domain.actions;
      name_of = name_of;
      cost_of = λ step. action_cost problem (binding_of step) step.action;
      is_applicable = λ full step. holds domain problem full step.action.precondition (binding_of step);
      added = λ full step. writes domain problem full true step.action.effect (binding_of step);
      deleted = λ full step. writes domain problem full false step.action.effect (binding_of step);
      initial = initial problem;
      is_goal = λ full. holds domain problem full problem.goal [];
    }

-- some plan of the domain and the problem has these names and this cost
abbrev pub HasPlan : Domain → Problem → List Name → ℕ → Type 0
HasPlan domain problem = planning.HasPlan (pddl_task domain problem)

-- the same of a plan none of whose steps is idle
abbrev pub HasBusyPlan : Domain → Problem → List Name → ℕ → Type 0
HasBusyPlan domain problem = planning.HasBusyPlan (pddl_task domain problem)
