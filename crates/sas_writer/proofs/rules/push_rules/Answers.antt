use Rattle.std.proofs.Common.{◌≡◌, [], ◌∷◌, ◌++◌, length, ap, ◌∙◌, arith}
use Rattle.sas_task.specs.Output.{bytes_of, numeral, rule_lines}
use Rattle.sas_writer.proofs.Pieces.{next_lines, all_counted}
use Rattle.sas_writer.proofs.rules.push_rules.Goals as goal

pub loop-i-preserved : goal.loop-i-preserved
loop-i-preserved c =
    next_lines rule_lines c.args.task.now.rules c.loop-i.i c.rule.result.now c.push_number_line.new.out.items c.loop-i.out.items c.push_rule.new.out.items c.rule.ensures c.loop-i.invariant c.in_ok-push_rule.ensures

pub returns : goal.returns
returns c =
    let items = c.args.task.now.rules in
    let count : c.rules-count.result ≡ length items = c.rules-count.ensures in
    all_counted rule_lines items c.loop-i.i c.args.out.now.items c.push_number_line.new.out.items c.loop-i.out.items (omega (arith, count)) (c.in_ok-push_number_line.ensures ∙ ap (λ n. c.args.out.now.items ++ bytes_of (numeral n ∷ [])) count) c.loop-i.invariant
