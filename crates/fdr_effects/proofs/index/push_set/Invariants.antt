use Rattle.std.proofs.Common.{take}
use Rattle.lists.specs.Rows.{Adds}
use Rattle.fdr_effects.specs.Marks.{place_in}
use Rattle.fdr_effects.proofs.index.push_set.Given as goal

abbrev pub invariant-loop-val : goal.invariant-loop-val
invariant-loop-val l = Adds (place_in l.var (take l.val l.set)) l.initial.rows l.rows
