-- The pools are those that were handed in.
use Rattle.fdr_effects.proofs.Combined.{pools_kept}
use Rattle.fdr_effects.proofs.splits.ways_through.Goals as goal

pub returns-clause-pools : goal.returns-clause-pools
returns-clause-pools c = pools_kept _ (λ v it gives. (gives.3, gives.0)) c.args.pools c.into_iter.result c.into_iter.ensures.runs c.into_iter.ensures.rest c.multi_cartesian_product.result c.multi_cartesian_product.ensures.pools
