use Rattle.std.proofs.Common.{[], ◌∷◌, ◌++◌, ap, ◌∙◌}
use Rattle.sas_task.specs.Output.{bytes_of}
use Rattle.sas_writer.proofs.Pieces.{next_lines, item_at, all_counted}
use Rattle.sas_writer.proofs.sections.push_facts.Goals as goal

pub loop-fact-preserved : goal.loop-fact-preserved
loop-fact-preserved c =
    next_lines (λ fact. fact ∷ []) c.args.facts.now c.loop-fact.fact-index c.fact-item.result c.push_number_line.new.out.items c.loop-fact.out.items c.push_line.new.out.items (item_at c.args.facts.now c.loop-fact.fact-index c.fact-item.result c.loop-fact-test.true c.fact-item.is) c.loop-fact.invariant
    (c.in_ok-push_line.ensures ∙ ap (λ line. c.loop-fact.out.items ++ bytes_of (line ∷ [])) c.as_slice.ensures)

pub returns : goal.returns
returns c = all_counted (λ fact. fact ∷ []) c.args.facts.now c.loop-fact.fact-index c.args.out.now.items c.push_number_line.new.out.items c.loop-fact.out.items c.loop-fact-test.false c.in_ok-push_number_line.ensures c.loop-fact.invariant
