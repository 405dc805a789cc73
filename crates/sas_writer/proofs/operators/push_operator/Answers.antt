use Rattle.std.proofs.Common.{[], ◌∷◌, ◌++◌, ap, ◌∙◌}
use Rattle.std.specs.Prelude.{codes}
use Rattle.std.proofs.lemmas.Result.{on_ok_weaker}
use Rattle.sas_task.specs.Output.{bytes_of, counted, effect_line, pair_lines, prevail, numeral}
use Rattle.sas_writer.proofs.Pieces.{then_lines}
use Rattle.sas_writer.proofs.operators.push_operator.Goals as goal

pub returns : goal.returns
returns c =
    let o = c.args.operator.now in
    let out = c.args.out.now.items in
    let begins = codes "begin_operator" ∷ [] in
    let name = o.name ∷ [] in
    let pairs = counted pair_lines (prevail o) in
    let effects = counted (λ e. effect_line o e ∷ []) o.effects in
    let cost = numeral o.cost ∷ [] in
    let named = then_lines begins name out c.push_line.new.out.items c.push_line-2.new.out.items c.in_ok-push_line.ensures
    (c.in_ok-push_line-2.ensures ∙ ap (λ n. c.push_line.new.out.items ++ bytes_of (n ∷ [])) c.as_slice.ensures) in
    let paired = then_lines (begins ++ name) pairs out c.push_line-2.new.out.items c.push_pairs.new.out.items named
    (c.in_ok-push_pairs.ensures ∙ ap (λ ps. c.push_line-2.new.out.items ++ bytes_of (counted pair_lines ps)) (c.as_slice-2.ensures.value ∙ c.in_ok-find_prevail.ensures)) in
    let effected = then_lines (begins ++ name ++ pairs) effects out c.push_pairs.new.out.items c.push_effects.new.out.items paired c.in_ok-push_effects.ensures in
    let priced = then_lines (begins ++ name ++ pairs ++ effects) cost out c.push_effects.new.out.items c.push_number_line.new.out.items effected c.in_ok-push_number_line.ensures in
    on_ok_weaker c.push_line-3.result (λ last. then_lines (begins ++ name ++ pairs ++ effects ++ cost) (codes "end_operator" ∷ []) out c.push_number_line.new.out.items c.push_line-3.new.out.items priced last) c.push_line-3.ensures
