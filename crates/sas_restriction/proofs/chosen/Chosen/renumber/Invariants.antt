use Rattle.std.proofs.Common.{◌≡◌, ◌++◌, length, map, take, drop}
use Rattle.sas_restriction.specs.Listed.{chosen}
use Rattle.sas_restriction.specs.Choice.{new_pair}
use Rattle.sas_restriction.proofs.chosen.Chosen.renumber.Given as goal

abbrev pub invariant-loop-i : goal.invariant-loop-i
invariant-loop-i l =
    (length l.pairs.items ≡ length l.initial.pairs.items)
    × (l.pairs.items ≡ map (new_pair (chosen l.self)) (take l.i l.initial.pairs.items) ++ drop l.i l.initial.pairs.items)
