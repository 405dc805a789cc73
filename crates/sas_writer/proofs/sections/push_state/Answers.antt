use Rattle.std.proofs.Common.{◌≤◌, [], ◌∷◌, ◌++◌, length, map, ap, ◌∙◌, arith}
use Rattle.std.specs.Prelude.{codes}
use Rattle.std.proofs.lemmas.List.{take_all}
use Rattle.std.proofs.lemmas.Result.{on_ok_weaker}
use Rattle.sas_task.specs.Output.{bytes_of, numeral}
use Rattle.sas_writer.proofs.Pieces.{then_lines}
use Rattle.sas_writer.proofs.sections.push_state.Goals as goal

pub returns : goal.returns
returns c =
    let state = c.args.task.now.state in
    let out = c.args.out.now.items in
    let begins = codes "begin_state" ∷ [] in
    let done : length state ≤ c.loop-i.i = omega (arith, c.is_valid.ensures.one_value) in
    let valued = then_lines begins (map numeral state) out c.push_line.new.out.items c.loop-i.out.items c.in_ok-push_line.ensures
    (c.loop-i.invariant ∙ ap (λ s. c.push_line.new.out.items ++ bytes_of (map numeral s)) (take_all c.loop-i.i state done)) in
    on_ok_weaker c.push_line-2.result (λ last. then_lines (begins ++ map numeral state) (codes "end_state" ∷ []) out c.loop-i.out.items c.push_line-2.new.out.items valued last) c.push_line-2.ensures
