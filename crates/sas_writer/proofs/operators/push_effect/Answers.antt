use Rattle.std.proofs.Common.{◌++◌, ◌∷◌, length, ap, ◌∙◌}
use Rattle.std.specs.List.{flat_map}
use Rattle.sas_task.specs.Output.{number_or_none, pair_words, value_in, required_value, numeral}
use Rattle.sas_writer.proofs.Pieces.{effect_pieces, after_spaces}
use Rattle.sas_writer.proofs.operators.push_effect.Goals as goal

pub returns : goal.returns
returns c =
    let e = c.args.effect.now in
    let conditions = c.as_slice-conditions.ensures in
    let required = c.value_in.ensures ∙ ap (λ ps. value_in ps e.var) c.as_slice.ensures in
    effect_pieces (numeral (length e.conditions)) (numeral e.var) (number_or_none (required_value c.args.operator.now e.var)) (numeral e.after) (flat_map pair_words e.conditions)
    c.args.out.now.items c.push_number.new.out.items c.push_next_pairs.new.out.items c.push_next_number.new.out.items c.push_next_number_or_none.new.out.items c.push_next_number-2.new.out.items c.push.new.self.items
    (c.in_ok-push_number.ensures ∙ ap (λ ps. c.args.out.now.items ++ numeral (length ps)) conditions)
    (c.in_ok-push_next_pairs.ensures ∙ ap (λ ps. c.push_number.new.out.items ++ after_spaces (flat_map pair_words ps)) conditions)
    c.in_ok-push_next_number.ensures
    (c.in_ok-push_next_number_or_none.ensures ∙ ap (λ n. c.push_next_number.new.out.items ++ 32 ∷ number_or_none n) required)
    c.in_ok-push_next_number-2.ensures c.in_ok-push.ensures.items
