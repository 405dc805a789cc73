use Rattle.std.proofs.Common.{◌≡◌, ltb, length, take}
use Rattle.std.specs.List.{flat_map}
use Rattle.sas_restriction.proofs.Pieces.{made_piece}
use Rattle.sas_restriction.specs.Listed.{chosen}
use Rattle.sas_restriction.specs.Choice.{new_group}
use Rattle.sas_restriction.proofs.whole.groups_left.Given as goal

abbrev pub invariant-loop-i : goal.invariant-loop-i
invariant-loop-i l = l.groups.items ≡ flat_map (made_piece (new_group (chosen l.shown)) (λ g. ltb 1 (length g.facts))) (take l.i l.task.groups)
