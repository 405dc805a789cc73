use Rattle.std.proofs.Common.{◌≡◌, take}
use Rattle.std.specs.List.{flat_map}
use Rattle.plan_backmap.specs.PlanText.{step_line}
use Rattle.plan_backmap.proofs.text.plan_text.Given as goal

abbrev pub invariant-loop-step : goal.invariant-loop-step
invariant-loop-step l = l.text.items ≡ flat_map step_line (take l.step-index l.step-items)
