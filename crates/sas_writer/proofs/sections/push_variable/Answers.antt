use Rattle.std.proofs.Common.{[], ◌∷◌, ◌++◌, ap, ◌∙◌}
use Rattle.std.specs.Prelude.{codes}
use Rattle.std.proofs.lemmas.Result.{on_ok_weaker}
use Rattle.sas_task.specs.Output.{bytes_of, counted, number_or_none, numeral}
use Rattle.sas_writer.proofs.Pieces.{then_lines}
use Rattle.sas_writer.proofs.sections.push_variable.Goals as goal

pub returns : goal.returns
returns c =
    let out = c.args.out.now.items in
    let begins = codes "begin_variable" ∷ [] in
    let name = (codes "var" ++ numeral c.args.number) ∷ [] in
    let layer = number_or_none c.args.variable.now.layer ∷ [] in
    let facts = counted (λ fact. fact ∷ []) c.args.variable.now.facts in
    let named = then_lines begins name out c.push_line.new.out.items c.push_name_line.new.out.items c.in_ok-push_line.ensures c.in_ok-push_name_line.ensures in
    let layered = then_lines (begins ++ name) layer out c.push_name_line.new.out.items c.push_number_or_none_line.new.out.items named c.in_ok-push_number_or_none_line.ensures in
    let valued = then_lines (begins ++ name ++ layer) facts out c.push_number_or_none_line.new.out.items c.push_facts.new.out.items layered
    (c.in_ok-push_facts.ensures ∙ ap (λ fs. c.push_number_or_none_line.new.out.items ++ bytes_of (counted (λ fact. fact ∷ []) fs)) c.as_slice.ensures) in
    on_ok_weaker c.push_line-2.result (λ last. then_lines (begins ++ name ++ layer ++ facts) (codes "end_variable" ∷ []) out c.push_facts.new.out.items c.push_line-2.new.out.items valued last) c.push_line-2.ensures
