use Rattle.std.proofs.Common.{[], ◌∷◌, ◌++◌, ap, ◌∙◌}
use Rattle.sas_task.specs.declared.parts.Effect.{Effect}
use Rattle.sas_task.specs.Output.{bytes_of, counted, effect_line}
use Rattle.sas_writer.proofs.Pieces.{next_lines, item_at, all_counted}
use Rattle.sas_writer.proofs.operators.push_effects.Goals as goal

pub loop-effect-preserved : goal.loop-effect-preserved
loop-effect-preserved c =
    next_lines (λ e. effect_line c.args.operator.now e ∷ []) c.as_slice-effects.result.now c.loop-effect.effect-index c.effect-item.result c.push_number_line.new.out.items c.loop-effect.out.items c.push_effect.new.out.items (item_at c.as_slice-effects.result.now c.loop-effect.effect-index c.effect-item.result c.loop-effect-test.true c.effect-item.is) c.loop-effect.invariant c.in_ok-push_effect.ensures

pub returns : goal.returns
returns c =
    let lines = λ (e : Effect). effect_line c.args.operator.now e ∷ [] in
    all_counted lines c.as_slice-effects.result.now c.loop-effect.effect-index c.args.out.now.items c.push_number_line.new.out.items c.loop-effect.out.items c.loop-effect-test.false c.in_ok-push_number_line.ensures c.loop-effect.invariant
    ∙ ap (λ effects. c.args.out.now.items ++ bytes_of (counted lines effects)) c.as_slice-effects.ensures
