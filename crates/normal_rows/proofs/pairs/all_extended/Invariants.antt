use Rattle.std.proofs.Common.{◌≡◌, map}
use Rattle.normal_task.specs.Parts as spec
use Rattle.normal_rows.proofs.pairs.all_extended.Given as goal

abbrev pub invariant-loop-first : goal.invariant-loop-first
invariant-loop-first l = l.all.items ≡ map (λ first. spec.joined l.around first l.second) l.yielded
