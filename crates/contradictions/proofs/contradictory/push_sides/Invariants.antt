use Rattle.std.proofs.Common.{◌≡◌, ◌++◌, map, flat_map, take}
use Rattle.contradictions.specs.Contradictory.{sides}
use Rattle.contradictions.specs.Merges.{as_pair}
use Rattle.contradictions.proofs.contradictory.push_sides.Given as goal

abbrev pub invariant-loop-pair : goal.invariant-loop-pair
invariant-loop-pair l = l.terms.items ≡ l.initial.terms.items ++ flat_map sides (map as_pair (take l.pair-index l.pairs))
