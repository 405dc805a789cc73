use Rattle.std.proofs.Common.{◌≡◌, ◌≤◌, ◌++◌, [], length, take, reverse}
use Rattle.normal_rows.specs.Asked.{asks}
use Rattle.normal_task.specs.Parts as spec
use Rattle.normal_rows.proofs.slots.slots_for.Given as goal

abbrev pub decreases-loop-left : goal.decreases-loop-left
decreases-loop-left l = l.left

abbrev pub invariant-loop-left : goal.invariant-loop-left
invariant-loop-left l = record {
  within : l.left ≤ length l.variables;
  so_far : spec.slots_for (asks l.free l.inner) (reverse (take l.left l.variables)) ++ reverse l.slots.items ≡ spec.slots_for (asks l.free []) (reverse l.variables);
}
