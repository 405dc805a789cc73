use Rattle.std.proofs.Common.{◌≡◌, map, take}
use Rattle.sas_task.specs.Pairs.{pair}
use Rattle.fdr_effects.specs.Marks.{values_marked}
use Rattle.fdr_effects.proofs.splits.pools.Given as goal

abbrev pub invariant-loop-var : goal.invariant-loop-var
invariant-loop-var l = map (λ pool. pool.items) l.pools.items ≡ map (λ var. map (pair var) (values_marked l.index l.wanted l.barred var)) (take l.var-index l.vars)
