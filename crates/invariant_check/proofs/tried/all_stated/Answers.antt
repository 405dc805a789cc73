use Rattle.std.proofs.Common.{◌++◌, ap, ◌∙◌, sym}
use Rattle.lists.proofs.LoopSteps.{flat_map_next}
use Rattle.invariant_check.specs.Attempts.{stated_at}
use Rattle.invariant_check.proofs.tried.all_stated.Goals as goal

pub loop-literal-preserved : goal.loop-literal-preserved
loop-literal-preserved c =
    c.in_ok-push_stated.ensures ∙ ap (λ l. l ++ stated_at c.args.predicate c.args.index c.literal-item.result) c.loop-literal.invariant
    ∙ sym (flat_map_next c.args.required.now c.loop-literal.literal-index c.literal-item.result c.loop-literal-test.true c.literal-item.is (stated_at c.args.predicate c.args.index))
