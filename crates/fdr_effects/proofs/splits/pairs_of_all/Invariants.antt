use Rattle.std.proofs.Common.{◌≡◌, take}
use Rattle.std.specs.List.{flat_map}
use Rattle.fdr_effects.proofs.splits.pairs_of_all.Given as goal

abbrev pub invariant-loop-pool : goal.invariant-loop-pool
invariant-loop-pool l = l.all.items ≡ flat_map (λ pool. pool.items) (take l.pool-index l.pools)
