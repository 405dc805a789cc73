use Rattle.std.proofs.Common.{◌≡◌, take}
use Rattle.fdr_effects.specs.Groups.{groups_of}
use Rattle.fdr_effects.proofs.groups.groups.Given as goal

abbrev pub invariant-loop-facts : goal.invariant-loop-facts
invariant-loop-facts l = l.all.items ≡ groups_of l.index (take l.facts-index l.groups)
