use Rattle.std.proofs.Common.{◌≡◌, take}
use Rattle.normal_task.specs.Numbers as spec
use Rattle.numbering.proofs.numbering.Numbering.ranges.Given as goal

abbrev pub invariant-loop-variable : goal.invariant-loop-variable
invariant-loop-variable l = l.ranges.items ≡ spec.ranges_of l.self.domain l.self.problem (take l.variable-index l.variables)
