use Rattle.std.proofs.Common.{◌≡◌, map, take}
use Rattle.normal_rows.proofs.slots.ranges_of.Given as goal

abbrev pub invariant-loop-variable : goal.invariant-loop-variable
invariant-loop-variable l = l.ranges.items ≡ map (λ slot. slot.range) (take l.variable-index l.arguments)
