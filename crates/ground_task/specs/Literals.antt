-- Planning tasks of literal lists, over atoms of any type (PDDL 2.2, with conditions that are lists of literals). Ground tasks and reached tasks are such tasks.
use Rattle.std.specs.Prelude.{ℕ, Bool, false, not, ◌&&◌, List, Some}
use Rattle.std.specs.List.{list_all, list_any}
use Rattle.planning.specs.Task.{State, PlanningTask}
use Rattle.ground_task.specs.declared.types.Cond.{Cond}
use Rattle.ground_task.specs.declared.types.GoalRow.{GoalRow}
use Rattle.ground_task.specs.declared.types.GoalRow.TheVariants.{Never, All}

-- ---- tasks

-- an effect adds its atom, or deletes it, where its condition holds
pub record EffectRow (A : Type 0) : Type 0 where
  pub condition : Cond A
  pub adds : Bool
  pub atom : A

-- an action is applicable where its condition holds, and all its effects whose conditions hold take place at once
pub record ActionRow (A : Type 0) : Type 0 where
  pub name : List ℕ
  pub condition : Cond A
  pub effects : List (EffectRow A)
  pub cost : ℕ

-- the atom is true where the condition holds
pub record AxiomRow (A : Type 0) : Type 0 where
  pub atom : A
  pub condition : Cond A

-- A task. `same` tells whether two atoms are the same, and `is_derived` whether axioms, and not actions, make an atom true.
pub record LiteralTask (A : Type 0) : Type 0 where
  pub same : A → A → Bool
  pub is_derived : A → Bool
  pub init : List A
  pub actions : List (ActionRow A)
  pub axioms : List (AxiomRow A)
  pub goal : GoalRow A

-- ---- conditions, axioms and effects

-- all positive atoms of the condition are in the state, and no negative one is
abbrev pub holds : {A : Type 0} → State A → Cond A → Bool
holds state condition = list_all state condition.positive && list_all (λ atom. not (state atom)) condition.negative

-- the axiom gives the atom: it is for this atom, and its condition holds
abbrev pub gives : {A : Type 0} → LiteralTask A → State A → A → AxiomRow A → Bool
gives task full atom row = task.same row.atom atom && holds full row.condition

-- the effect writes the atom: it is on this atom, and its condition holds
abbrev pub writes : {A : Type 0} → LiteralTask A → State A → A → EffectRow A → Bool
writes task full atom row = task.same row.atom atom && holds full row.condition

-- ---- the task

-- the initial state: the atoms of `init`, and no others
abbrev pub initial : {A : Type 0} → LiteralTask A → State A
initial task atom = list_any (λ known. task.same known atom) task.init

-- the goal's literals hold
abbrev pub goal_holds : {A : Type 0} → State A → GoalRow A → Bool
goal_holds state Never = false
goal_holds state (All condition) = holds state condition

-- the task of literal lists as a planning task, whose steps are its actions
abbrev pub meaning : {A : Type 0} → LiteralTask A → PlanningTask A (ActionRow A)
meaning task =
    record {
      is_derived = task.is_derived;
      is_given = λ full atom. list_any (gives task full atom) task.axioms;
      steps = task.actions;
      name_of = λ action. action.name;
      cost_of = λ action. Some action.cost;
      is_applicable = λ full action. holds full action.condition;
      added = λ full action atom. list_any (λ row. row.adds && writes task full atom row) action.effects;
      deleted = λ full action atom. list_any (λ row. not row.adds && writes task full atom row) action.effects;
      initial = initial task;
      is_goal = λ full. goal_holds full task.goal;
    }
