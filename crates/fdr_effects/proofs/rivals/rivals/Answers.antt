-- The sort leaves the rivals on each variable in their order.
use Rattle.std.proofs.lemmas.Result.{IfOk-weaker}
use Rattle.fdr_effects.specs.Rivals.{AreRivals}
use Rattle.fdr_effects.proofs.AddEffects.{are_rivals}
use Rattle.fdr_effects.proofs.rivals.rivals.Goals as goal

pub returns-clause-rivals : goal.returns-clause-rivals
returns-clause-rivals c =
    IfOk-weaker c.by_variable.result _ (λ all. AreRivals c.args.index.now c.args.effects.now all.items) (λ all stable.
    are_rivals c.args.index.now c.args.effects.now c.in_ok-in_turn.field-0.items all.items stable c.in_ok-in_turn.ensures) c.by_variable.ensures.stable
