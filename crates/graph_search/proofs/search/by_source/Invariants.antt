use Rattle.std.proofs.Common.{[], replicate, take}
use Rattle.lists.specs.Rows.{Adds}
use Rattle.graph_search.specs.Search.{leads_to}
use Rattle.graph_search.proofs.search.by_source.Given as goal

abbrev pub invariant-loop-arc : goal.invariant-loop-arc
invariant-loop-arc l = Adds (leads_to (take l.arc-index l.arcs)) (replicate l.count []) l.rows
