use Rattle.std.proofs.Common.{◌≡◌, take, reverse}
use Rattle.normal_rows.proofs.scope.Scope.copy.Given as goal

abbrev pub invariant-loop-variable : goal.invariant-loop-variable
invariant-loop-variable l = l.scope ≡ reverse (take l.variable-index l.variable-items)
