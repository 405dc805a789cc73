use Rattle.std.proofs.Common.{◌≡◌, [], ◌∷◌, ◌++◌, length, ap, ◌∙◌, arith}
use Rattle.sas_task.specs.Output.{bytes_of, numeral, group_lines}
use Rattle.sas_writer.proofs.Pieces.{next_lines, all_counted}
use Rattle.sas_writer.proofs.sections.push_groups.Goals as goal

pub loop-i-preserved : goal.loop-i-preserved
loop-i-preserved c =
    next_lines group_lines c.args.task.now.groups c.loop-i.i c.group.result.now c.push_number_line.new.out.items c.loop-i.out.items c.push_group.new.out.items c.group.ensures c.loop-i.invariant c.in_ok-push_group.ensures

pub returns : goal.returns
returns c =
    let items = c.args.task.now.groups in
    let count : c.groups-count.result ≡ length items = c.groups-count.ensures in
    all_counted group_lines items c.loop-i.i c.args.out.now.items c.push_number_line.new.out.items c.loop-i.out.items (omega (arith, count)) (c.in_ok-push_number_line.ensures ∙ ap (λ n. c.args.out.now.items ++ bytes_of (numeral n ∷ [])) count) c.loop-i.invariant
