-- What the steps of a plan file have to do with the solutions of a task.
use Rattle.std.specs.Prelude.{◌≡◌, ℕ, List, map, Contains}
use Rattle.sas_task.specs.declared.parts.Operator.{Operator}
use Rattle.sas_task.specs.Task.{Task}
use Rattle.sas_task.specs.Valid.{IsValid}
use Rattle.sas_task.specs.Solution.{HasSolution}
use Rattle.plan_backmap.specs.declared.plan.Step.{Step}
use Rattle.plan_backmap.specs.Lines.{name}
use Rattle.plan_backmap.specs.Plans.{steps, total}

-- operators of one name have one cost
abbrev pub NamesTellCosts : List Operator → Type 0
NamesTellCosts operators = (a b : Operator) → Contains operators a → Contains operators b → a.name ≡ b.name → a.cost ≡ b.cost

-- the names of steps
abbrev pub step_names : List Step → List (List ℕ)
step_names steps = map (λ step. name step.words) steps

-- where operators of one name have one cost, a solution with the names of a plan's steps costs what they cost together
abbrev pub SolutionsCostTheTotal : Type 0
SolutionsCostTheTotal =
    (task : Task) (plan : List (List ℕ)) (cost : ℕ) → IsValid task → NamesTellCosts task.operators → HasSolution task (step_names (steps task.operators plan)) cost → cost ≡ total (steps task.operators plan)
