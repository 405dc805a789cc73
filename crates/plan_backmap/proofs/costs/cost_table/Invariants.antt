use Rattle.std.proofs.Common.{◌≤◌, length, drop}
use Rattle.plan_backmap.specs.Costs.{HoldsCosts, AreSmall}
use Rattle.plan_backmap.proofs.costs.cost_table.Given as goal

abbrev pub invariant-loop-left : goal.invariant-loop-left
invariant-loop-left l = (l.left ≤ length l.task.operators) × HoldsCosts (drop l.left l.task.operators) l.table × AreSmall (drop l.left l.task.operators)

abbrev pub decreases-loop-left : goal.decreases-loop-left
decreases-loop-left l = l.left
