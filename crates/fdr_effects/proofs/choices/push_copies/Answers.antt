-- One more literal.
use Rattle.std.proofs.Common.{◌++◌, append-nil, List, map, take_all, sym, ap, ◌∙◌}
use Rattle.fdr_effects.specs.declared.literals.Literal.{Literal}
use Rattle.fdr_effects.specs.Effects.{both}
use Rattle.fdr_effects.specs.Standing.{alone, standing}
use Rattle.fdr_effects.proofs.StandingChoices.{next_copy}
use Rattle.fdr_effects.proofs.choices.push_copies.Goals as goal

pub loop-one-init : goal.loop-one-init
loop-one-init c cause = sym (append-nil (standing c.args.index.now cause c.args.all.now.items))

pub loop-one-preserved : goal.loop-one-preserved
loop-one-preserved c cause =
    next_copy c.args.index.now cause c.args.choice.now c.args.ones.now c.loop-one.one-index _ c.in_ok-copy_with.field-0 c.args.all.now.items c.loop-one.all.items c.push_standing.new.all.items
    (c.in_ok-push_standing.ensures {u = tt} cause) c.in_ok-copy_with.ensures c.loop-one-test.true (c.loop-one.invariant cause)

pub returns : goal.returns
returns c cause =
    let stands = standing c.args.index.now cause in
    let joined = λ (one : Literal). both c.args.choice.now (alone one) in
    c.loop-one.invariant cause ∙ ap (λ (ones : List Literal). stands c.args.all.now.items ++ stands (map joined ones)) (take_all c.loop-one.one-index c.args.ones.now c.loop-one-test.false)
