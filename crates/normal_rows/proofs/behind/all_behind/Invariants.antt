use Rattle.std.proofs.Common.{◌≡◌, map}
use Rattle.normal_task.specs.Parts as spec
use Rattle.normal_rows.proofs.behind.all_behind.Given as goal

abbrev pub invariant-loop-part : goal.invariant-loop-part
invariant-loop-part l = l.all.items ≡ map (spec.with_variables l.ranges) l.yielded
