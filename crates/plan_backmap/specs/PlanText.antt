-- The lines that are printed of a plan that is mapped back.
use Rattle.std.specs.Prelude.{ℕ, Bool, List, ◌++◌, codes, if◌then◌else◌}
use Rattle.std.specs.Fmt.{decimal}
use Rattle.std.specs.List.{flat_map}
use Rattle.plan_backmap.specs.Lines.{name}
use Rattle.plan_backmap.specs.declared.plan.Step.{Step}
use Rattle.plan_backmap.specs.declared.plan.Mapped.{Mapped}

-- a step's words, with single spaces between them, in parentheses
abbrev pub step_line : Step → List ℕ
step_line step = codes "(" ++ name step.words ++ codes ")\n"

-- how the last line ends: by whether operators have costs of their own
abbrev pub kind_of_cost : Bool → List ℕ
kind_of_cost metric = if metric then codes " (general cost)\n" else codes " (unit cost)\n"

-- the last line, on what the steps cost together
abbrev pub cost_line : Bool → ℕ → List ℕ
cost_line metric total = codes "; cost = " ++ decimal total ++ kind_of_cost metric

-- a line for each step, and the last line
abbrev pub plan_text : Bool → Mapped → List ℕ
plan_text metric plan = flat_map step_line plan.steps ++ cost_line metric plan.total
