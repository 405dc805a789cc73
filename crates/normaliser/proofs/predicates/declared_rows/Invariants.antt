use Rattle.std.proofs.Common.{◌≡◌, map, take}
use Rattle.normaliser.specs.Rows.{row_of}
use Rattle.normaliser.proofs.predicates.declared_rows.Given as goal

abbrev pub invariant-loop-head : goal.invariant-loop-head
invariant-loop-head l = l.rows.items ≡ map (row_of l.derived l.changed) (take l.head-index l.heads)
