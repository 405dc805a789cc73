use Rattle.std.proofs.Common.{◌≡◌, take}
use Rattle.normal_task.specs.Parts as spec
use Rattle.normal_rows.proofs.pairs.all_joined.Given as goal

abbrev pub invariant-loop-first : goal.invariant-loop-first
invariant-loop-first l = l.all.items ≡ spec.paired l.around (take l.first-index l.firsts) l.seconds
