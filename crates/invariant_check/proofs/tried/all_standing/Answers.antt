use Rattle.std.proofs.Common.{◌++◌, ap, ◌∙◌, sym}
use Rattle.lists.proofs.LoopSteps.{flat_map_next}
use Rattle.contradictions.specs.Contradictory.{terms_of}
use Rattle.invariant_check.proofs.tried.all_standing.Goals as goal

pub loop-literal-preserved : goal.loop-literal-preserved
loop-literal-preserved c =
    c.in_ok-push_terms.ensures ∙ ap (λ l. l ++ terms_of c.literal-item.result) c.loop-literal.invariant
    ∙ sym (flat_map_next c.args.required.now c.loop-literal.literal-index c.literal-item.result c.loop-literal-test.true c.literal-item.is terms_of)
