use Rattle.std.proofs.Common.{◌≡◌, ◌++◌, map, take}
use Rattle.normal_task.specs.Parts as spec
use Rattle.normal_rows.proofs.pairs.push_joined.Given as goal

abbrev pub invariant-loop-second : goal.invariant-loop-second
invariant-loop-second l = l.all.items ≡ l.initial.all.items ++ map (spec.joined l.around l.first) (take l.second-index l.seconds)
