use Rattle.std.proofs.Common.{◌≡◌, ◌++◌, map, flat_map, take}
use Rattle.contradictions.specs.Contradictory.{equality_of}
use Rattle.contradictions.specs.Merges.{as_pair}
use Rattle.contradictions.proofs.contradictory.all_pairs.Given as goal

abbrev pub invariant-loop-pair : goal.invariant-loop-pair
invariant-loop-pair l = map as_pair l.pairs.items ≡ map as_pair (take l.pair-index l.equated)

abbrev pub invariant-loop-literal : goal.invariant-loop-literal
invariant-loop-literal l = map as_pair l.pairs.items ≡ map as_pair l.equated ++ flat_map equality_of (take l.literal-index l.literals)
