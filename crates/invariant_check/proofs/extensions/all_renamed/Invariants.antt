use Rattle.std.proofs.Common.{◌≡◌, map, take}
use Rattle.invariant_check.specs.Extensions.{renamed}
use Rattle.invariant_check.proofs.extensions.all_renamed.Given as goal

abbrev pub invariant-loop-part : goal.invariant-loop-part
invariant-loop-part l = l.named.items ≡ map (renamed l.rising.items l.first) (take l.part-index l.parts)
