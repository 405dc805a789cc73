-- What a plan file comes to for a task's operators: its steps with their costs, or its first faulty line.
use Rattle.std.specs.Prelude.{ℕ, List, [], ◌∷◌, Option, Some, None, is_some, not, if◌then◌else◌}
use Rattle.std.specs.List.{enumerate_from, filter_map, sum_by}
use Rattle.std.specs.Option.{option_map}
use Rattle.names.specs.Names.{Name, is_same}
use Rattle.sas_task.specs.declared.parts.Operator.{Operator}
use Rattle.plan_backmap.specs.Lines.{is_comment, is_step, words, name}
use Rattle.plan_backmap.specs.declared.plan.Step.{Step}
use Rattle.plan_backmap.specs.declared.plan.Mapped.{Mapped}
use Rattle.plan_backmap.specs.declared.fault.PlanFault.{PlanFault}
use Rattle.plan_backmap.specs.declared.fault.PlanFault.TheVariants.{BadLine, UnknownStep}

-- a line of a text: 1 is the first
abbrev pub Line : Type 0
Line = ℕ

-- the cost of the first operator with the name
abbrev pub cost_of : List Operator → Name → Option ℕ
cost_of [] wanted = None
cost_of (operator ∷ more) wanted = if is_same wanted operator.name then Some operator.cost else cost_of more wanted

-- the step of a trimmed line, where it is one and an operator has its name: its words, and that operator's cost
abbrev pub step_of : List Operator → List ℕ → Option Step
step_of operators line = if is_step line then option_map (λ cost. record { words = words line; cost = cost }) (cost_of operators (name (words line))) else None

-- the steps of trimmed lines, in order
abbrev pub steps : List Operator → List (List ℕ) → List Step
steps operators plan = filter_map (step_of operators) plan

-- the fault of a trimmed line with this number, if it has one
abbrev pub fault_of : List Operator → Line → List ℕ → Option PlanFault
fault_of operators number line =
    if is_comment line then None
    else if not (is_step line) then Some (BadLine number)
    else if is_some (cost_of operators (name (words line))) then None
    else Some (UnknownStep number)

-- the faults of trimmed lines, in order, where the first has this number
abbrev pub faults_from : Line → List Operator → List (List ℕ) → List PlanFault
faults_from number operators plan = filter_map (λ line. fault_of operators line.0 line.1) (enumerate_from number plan)

-- the faults of trimmed lines, in order, counted from 1
abbrev pub faults : List Operator → List (List ℕ) → List PlanFault
faults operators plan = faults_from 1 operators plan

-- what the steps cost together
abbrev pub total : List Step → ℕ
total steps = sum_by (λ step. step.cost) steps

-- the steps of trimmed lines, and what they cost together
abbrev pub mapped : List Operator → List (List ℕ) → Mapped
mapped operators plan = record { steps = steps operators plan; total = total (steps operators plan) }
