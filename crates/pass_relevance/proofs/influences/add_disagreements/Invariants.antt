use Rattle.std.proofs.Common.{◌≡◌, ◌++◌}
use Rattle.std.specs.List.{flat_map, range_with_len}
use Rattle.pass_relevance.specs.Influences.{arcs_of_two}
use Rattle.pass_relevance.proofs.influences.add_disagreements.Given as goal

abbrev pub invariant-loop-place : goal.invariant-loop-place
invariant-loop-place l = l.arcs.items ≡ l.initial.arcs.items ++ flat_map (arcs_of_two l.node l.pairs) (range_with_len 0 l.place)
