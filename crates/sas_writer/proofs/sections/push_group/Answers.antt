use Rattle.std.proofs.Common.{[], ◌∷◌, ◌++◌}
use Rattle.std.specs.Prelude.{codes}
use Rattle.std.proofs.lemmas.Result.{on_ok_weaker}
use Rattle.sas_task.specs.Output.{counted, pair_lines}
use Rattle.sas_writer.proofs.Pieces.{then_lines}
use Rattle.sas_writer.proofs.sections.push_group.Goals as goal

pub returns : goal.returns
returns c =
    let out = c.args.out.now.items in
    let begins = codes "begin_mutex_group" ∷ [] in
    let facts = counted pair_lines c.args.group.now.facts in
    let two = then_lines begins facts out c.push_line.new.out.items c.push_pairs.new.out.items c.in_ok-push_line.ensures (rw c.as_slice.ensures at c.in_ok-push_pairs.ensures) in
    on_ok_weaker c.push_line-2.result (λ last. then_lines (begins ++ facts) (codes "end_mutex_group" ∷ []) out c.push_pairs.new.out.items c.push_line-2.new.out.items two last) c.push_line-2.ensures
