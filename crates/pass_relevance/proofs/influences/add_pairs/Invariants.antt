use Rattle.std.proofs.Common.{◌≡◌, ◌++◌, take}
use Rattle.pass_relevance.specs.Influences.{arcs_to}
use Rattle.pass_relevance.proofs.influences.add_pairs.Given as goal

abbrev pub invariant-loop-pair : goal.invariant-loop-pair
invariant-loop-pair l = l.arcs.items ≡ l.initial.arcs.items ++ arcs_to l.from (take l.pair-index l.pairs)
