-- Solutions of which a part is a solution of another task.
use Rattle.std.specs.Prelude.{Bool, List, ℕ, map, filter, sum}
use Rattle.runs.specs.Runs.{Leads}
use Rattle.sas_task.specs.declared.parts.Operator.{Operator}
use Rattle.sas_task.specs.Task.{Task}
use Rattle.sas_task.specs.Solution.{Step, MeetsGoal, HasSolution, cost_in}

-- of each solution of the old task the operators that pass the test, in their order, with their names and costs, are a solution of the new one
abbrev pub KeepsPart : (Operator → Bool) → Task → Task → Type 0
KeepsPart passes old new =
    (steps : List Operator) (end : List ℕ) → Leads (Step old) old.state steps end → MeetsGoal old end →
    HasSolution new (map (λ o. o.name) (filter passes steps)) (sum (map (cost_in old) (filter passes steps)))
