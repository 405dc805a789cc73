-- Effect by effect.
use Rattle.std.proofs.Common.{◌++◌, sym, ap, ◌∙◌, subst}
use Rattle.lists.proofs.LoopSteps.{flat_map_next}
use Rattle.fdr_effects.specs.Effects.{effects_at}
use Rattle.fdr_effects.specs.Rivals.{AreRivals}
use Rattle.fdr_effects.proofs.effects.effects_of.Goals as goal

pub loop-effect-preserved : goal.loop-effect-preserved
loop-effect-preserved c =
    let cover = c.args.index.now in
    let effects = c.args.effects.now in
    let e = c.effect-item.result in
    let at = effects_at cover effects in
    c.in_ok-push_effect.ensures effects (subst (AreRivals cover effects) (sym c.as_slice.ensures.value) c.in_ok-rivals.ensures.rivals)
    ∙ ap (λ l. l ++ at e) c.loop-effect.invariant
    ∙ sym (flat_map_next effects c.loop-effect.effect-index e c.loop-effect-test.true c.effect-item.is at)
