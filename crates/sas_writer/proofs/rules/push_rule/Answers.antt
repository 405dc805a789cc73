use Rattle.std.proofs.Common.{[], ◌∷◌, ◌++◌, ap, ◌∙◌}
use Rattle.std.specs.Prelude.{codes}
use Rattle.std.proofs.lemmas.Result.{on_ok_weaker}
use Rattle.sas_task.specs.Output.{bytes_of, counted, pair_lines, rule_line}
use Rattle.sas_writer.proofs.Pieces.{then_lines}
use Rattle.sas_writer.proofs.rules.push_rule.Goals as goal

pub returns : goal.returns
returns c =
    let out = c.args.out.now.items in
    let begins = codes "begin_rule" ∷ [] in
    let pairs = counted pair_lines c.args.rule.now.conditions in
    let change = rule_line c.args.rule.now ∷ [] in
    let paired = then_lines begins pairs out c.push_line.new.out.items c.push_pairs.new.out.items c.in_ok-push_line.ensures
    (c.in_ok-push_pairs.ensures ∙ ap (λ ps. c.push_line.new.out.items ++ bytes_of (counted pair_lines ps)) c.as_slice.ensures) in
    let changed = then_lines (begins ++ pairs) change out c.push_pairs.new.out.items c.push_rule_line.new.out.items paired c.in_ok-push_rule_line.ensures in
    on_ok_weaker c.push_line-2.result (λ last. then_lines (begins ++ pairs ++ change) (codes "end_rule" ∷ []) out c.push_rule_line.new.out.items c.push_line-2.new.out.items changed last) c.push_line-2.ensures
