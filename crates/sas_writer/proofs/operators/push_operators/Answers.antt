use Rattle.std.proofs.Common.{◌≡◌, [], ◌∷◌, ◌++◌, length, ap, ◌∙◌, arith}
use Rattle.sas_task.specs.Output.{bytes_of, numeral, operator_lines}
use Rattle.sas_writer.proofs.Pieces.{next_lines, all_counted}
use Rattle.sas_writer.proofs.operators.push_operators.Goals as goal

pub loop-i-preserved : goal.loop-i-preserved
loop-i-preserved c =
    next_lines operator_lines c.args.task.now.operators c.loop-i.i c.operator.result.now c.push_number_line.new.out.items c.loop-i.out.items c.push_operator.new.out.items c.operator.ensures.value c.loop-i.invariant c.in_ok-push_operator.ensures

pub returns : goal.returns
returns c =
    let items = c.args.task.now.operators in
    let count : c.operators-count.result ≡ length items = c.operators-count.ensures in
    all_counted operator_lines items c.loop-i.i c.args.out.now.items c.push_number_line.new.out.items c.loop-i.out.items (omega (arith, count)) (c.in_ok-push_number_line.ensures ∙ ap (λ n. c.args.out.now.items ++ bytes_of (numeral n ∷ [])) count) c.loop-i.invariant
