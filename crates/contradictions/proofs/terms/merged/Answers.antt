use Rattle.contradictions.proofs.MergeSteps.{merged-next}
use Rattle.contradictions.proofs.terms.merged.Goals as goal

pub loop-pair-preserved : goal.loop-pair-preserved
loop-pair-preserved c =
    merged-next c.args.pairs.now c.loop-pair.pair-index _ c.loop-pair-test.true c.loop-pair.merges.items c.merge.new.merges.items c.loop-pair.invariant c.in_ok-merge.ensures
