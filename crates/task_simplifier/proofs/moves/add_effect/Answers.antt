use Rattle.std.proofs.Common.{List, subst}
use Rattle.sas_task.specs.declared.parts.Pair.{Pair}
use Rattle.lists.specs.Rows.{Adds}
use Rattle.task_simplifier.specs.Moves.{moves_on}
use Rattle.task_simplifier.proofs.moves.add_effect.Goals as goal

pub returns : goal.returns
returns c =
    let e = c.args.effect.now in
    subst (λ (second : List Pair). Adds (λ other. moves_on other e.var e.after c.args.operator.now.conditions second) c.args.moves.now c.add_move.new.moves) c.as_slice-second.ensures
    (subst (λ (first : List Pair). Adds (λ other. moves_on other e.var e.after first c.as_slice-second.result.now) c.args.moves.now c.add_move.new.moves) c.as_slice-first.ensures c.in_ok-add_move.ensures)
