-- Effect by effect.
use Rattle.std.proofs.Common.{◌++◌, sym, ap, ◌∙◌}
use Rattle.lists.proofs.LoopSteps.{flat_map_next}
use Rattle.fdr_effects.specs.Rivals.{rivals_of}
use Rattle.fdr_effects.proofs.rivals.in_turn.Goals as goal

pub loop-effect-preserved : goal.loop-effect-preserved
loop-effect-preserved c =
    let e = c.effect-item.result in
    let of = rivals_of c.args.index.now in
    c.in_ok-push_effect.ensures
    ∙ ap (λ l. l ++ of e) c.loop-effect.invariant
    ∙ sym (flat_map_next c.args.effects.now c.loop-effect.effect-index e c.loop-effect-test.true c.effect-item.is of)
