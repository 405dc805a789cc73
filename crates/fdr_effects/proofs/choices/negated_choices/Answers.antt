-- One more rival.
use Rattle.std.proofs.Common.{take, take_all, sym, ap, ◌∙◌}
use Rattle.lists.proofs.LoopSteps.{map_next}
use Rattle.fdr_effects.specs.declared.rivals.Rival.{Rival}
use Rattle.fdr_effects.specs.Effects.{negated_choices}
use Rattle.fdr_effects.specs.Rivals.{conditions}
use Rattle.fdr_effects.specs.Standing.{standing}
use Rattle.fdr_effects.proofs.StandingChoices.{next_choices}
use Rattle.fdr_effects.proofs.choices.negated_choices.Goals as goal

pub loop-rival-preserved : goal.loop-rival-preserved
loop-rival-preserved c =
    let cause = c.args.cause.now in
    let rivals = c.args.rivals.now in
    let i = c.loop-rival.rival-index in
    let r = c.rival-item.result in
    c.in_ok-all.ensures
    ∙ next_choices cause.cover cause.literals (conditions (take i rivals)) r.condition.now c.loop-rival.all.items c.loop-rival.invariant
    ∙ ap (λ cs. standing cause.cover cause.literals (negated_choices cs)) (sym (map_next rivals i r c.loop-rival-test.true c.rival-item.is (λ (r : Rival). r.condition.now)))

pub returns : goal.returns
returns c =
    let cause = c.args.cause.now in
    c.loop-rival.invariant ∙ ap (λ rs. standing cause.cover cause.literals (negated_choices (conditions rs))) (take_all c.loop-rival.rival-index c.args.rivals.now c.loop-rival-test.false)
