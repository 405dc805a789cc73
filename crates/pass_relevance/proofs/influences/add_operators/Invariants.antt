use Rattle.std.proofs.Common.{◌≡◌, ◌++◌}
use Rattle.std.specs.List.{flat_map, range_with_len}
use Rattle.pass_relevance.specs.Influences.{arcs_at}
use Rattle.pass_relevance.proofs.influences.add_operators.Given as goal

abbrev pub invariant-loop-i : goal.invariant-loop-i
invariant-loop-i l = l.arcs.items ≡ l.initial.arcs.items ++ flat_map (arcs_at l.task) (range_with_len 0 l.i)
