use Rattle.std.proofs.Common.{◌≡◌, [], drop}
use Rattle.normal_task.specs.Parts as spec
use Rattle.normal_rows.proofs.slots.renumbered.Given as goal

abbrev pub invariant-loop-index : goal.invariant-loop-index
invariant-loop-index l = spec.renumbered (drop l.index l.list) l.index l.scope ≡ spec.renumbered l.list 0 []
