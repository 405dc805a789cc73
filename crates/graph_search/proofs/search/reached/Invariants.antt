use Rattle.std.proofs.Common.{◌-◌}
use Rattle.graph_search.proofs.Searching.{Taken}
use Rattle.graph_search.proofs.search.reached.Given as goal

abbrev pub invariant-loop-number : goal.invariant-loop-number
invariant-loop-number l = Taken l.count l.starts l.arcs l.place l.found

-- no more numbers are found than there are
abbrev pub decreases-loop-number : goal.decreases-loop-number
decreases-loop-number l = l.count - l.place
