use Rattle.std.proofs.Common.{◌≡◌, [], ◌∷◌, ◌++◌, length, ap, ◌∙◌, arith}
use Rattle.std.specs.List.{enumerate_from}
use Rattle.std.proofs.lemmas.List.FromFn.{length-enumerate_from}
use Rattle.sas_task.specs.Output.{bytes_of, variable_lines, numeral}
use Rattle.sas_writer.proofs.Pieces.{next_lines, numbered_at, all_counted}
use Rattle.sas_writer.proofs.sections.push_variables.Goals as goal

pub loop-i-preserved : goal.loop-i-preserved
loop-i-preserved c =
    next_lines variable_lines (enumerate_from 0 c.args.task.now.variables) c.loop-i.i (c.loop-i.i, c.variable.result.now) c.push_number_line.new.out.items c.loop-i.out.items c.push_variable.new.out.items (numbered_at c.args.task.now.variables c.loop-i.i c.variable.result.now c.variable.ensures) c.loop-i.invariant c.in_ok-push_variable.ensures

pub returns : goal.returns
returns c =
    let numbered = enumerate_from 0 c.args.task.now.variables in
    let count : c.variables-count.result ≡ length numbered = omega (arith, c.variables-count.ensures, length-enumerate_from 0 c.args.task.now.variables) in
    all_counted variable_lines numbered c.loop-i.i c.args.out.now.items c.push_number_line.new.out.items c.loop-i.out.items (omega (arith, count)) (c.in_ok-push_number_line.ensures ∙ ap (λ n. c.args.out.now.items ++ bytes_of (numeral n ∷ [])) count) c.loop-i.invariant
