use Rattle.std.proofs.Common.{◌≡◌, take}
use Rattle.normal_task.specs.Numbers as spec
use Rattle.numbering.proofs.named.names_of.Given as goal

abbrev pub invariant-loop-head : goal.invariant-loop-head
invariant-loop-head l = l.names ≡ spec.head_names (take l.head-index l.heads)
