use Rattle.std.proofs.Common.{[], replicate}
use Rattle.lists.specs.Rows.{Adds}
use Rattle.names.specs.Arcs.{positions_from}
use Rattle.names.proofs.arcs.ArcsBySource.new.Given as goal

abbrev pub invariant-loop-position : goal.invariant-loop-position
invariant-loop-position l = Adds (positions_from l.arcs l.position) (replicate l.count []) l.rows
