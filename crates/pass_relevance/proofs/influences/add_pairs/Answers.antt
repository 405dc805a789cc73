use Rattle.std.proofs.Common.{get_or}
use Rattle.std.proofs.lemmas.List.{get_or_default}
use Rattle.lists.proofs.LoopSteps.{map_turn}
use Rattle.sas_task.specs.declared.parts.Pair.{Pair}
use Rattle.sas_task.specs.Pairs.{pair}
use Rattle.pass_relevance.specs.Influences.{arc}
use Rattle.pass_relevance.proofs.influences.add_pairs.Goals as goal

pub loop-pair-preserved : goal.loop-pair-preserved
loop-pair-preserved c =
    let here = get_or c.args.pairs.now c.loop-pair.pair-index (pair 0 0) in
    map_turn _ _ here c.loop-pair-test.true (get_or_default _ _ (pair 0 0) here c.loop-pair-test.true) (λ (p : Pair). arc c.args.from p.var) _ _ _ c.loop-pair.invariant (rw c.arc.ensures at c.in_ok-push.ensures.items)
