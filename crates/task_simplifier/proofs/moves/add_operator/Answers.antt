use Rattle.std.proofs.Common.{◌≡◌, ◌<◌, ◌≤◌, length, get_or, ap, ◌∙◌, arith}
use Rattle.task_simplifier.specs.Moves.{moves_of_effect}
use Rattle.lists.proofs.RowSteps.{nothing, next, all}
use Rattle.task_simplifier.proofs.moves.add_operator.Goals as goal

pub loop-effect-init : goal.loop-effect-init
loop-effect-init c = nothing c.args.moves.now

pub loop-effect-preserved : goal.loop-effect-preserved
loop-effect-preserved c =
    let o = c.args.operator.now in
    let i = c.loop-effect.effect-index in
    let e = c.effect-item.result in
    let same-length = ap length c.as_slice-effect-items.ensures in
    let low : i < length o.effects = omega (arith, same-length) in
    let at : e ≡ get_or o.effects i e = c.effect-item.is ∙ ap (λ es. get_or es i e) c.as_slice-effect-items.ensures in
    next (λ var. moves_of_effect var o) o.effects i e low at c.args.moves.now c.loop-effect.moves c.add_effect.new.moves c.loop-effect.invariant c.in_ok-add_effect.ensures

pub returns : goal.returns
returns c =
    let o = c.args.operator.now in
    let same-length = ap length c.as_slice-effect-items.ensures in
    let past : length o.effects ≤ c.loop-effect.effect-index = omega (arith, same-length) in
    all (λ var. moves_of_effect var o) o.effects c.loop-effect.effect-index past c.args.moves.now c.loop-effect.moves c.loop-effect.invariant
