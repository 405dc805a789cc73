use Rattle.std.proofs.Common.{[], replicate}
use Rattle.lists.specs.Rows.{Adds}
use Rattle.fdr_effects.proofs.Indexed.{places_below}
use Rattle.fdr_effects.proofs.index.Index.new.Given as goal

abbrev pub invariant-loop-var : goal.invariant-loop-var
invariant-loop-var l = Adds (places_below l.sets l.var) (replicate l.facts []) l.of_fact
