use Rattle.std.proofs.Common.{List, [], subst}
use Rattle.sas_task.specs.declared.parts.Pair.{Pair}
use Rattle.lists.specs.Rows.{Adds}
use Rattle.task_simplifier.specs.Moves.{moves_on, moves_of_rule}
use Rattle.lists.proofs.RowSteps.{nothing, next, all}
use Rattle.task_simplifier.proofs.moves.add_rules.Goals as goal

pub loop-rule-init : goal.loop-rule-init
loop-rule-init c = nothing c.args.moves.now

pub loop-rule-preserved : goal.loop-rule-preserved
loop-rule-preserved c =
    let r = c.rule-item.result in
    next moves_of_rule c.args.rules.now c.loop-rule.rule-index r c.loop-rule-test.true c.rule-item.is c.args.moves.now c.loop-rule.moves c.add_move.new.moves c.loop-rule.invariant
    (subst (λ (first : List Pair). Adds (λ var. moves_on var r.var r.after first []) c.loop-rule.moves c.add_move.new.moves) c.as_slice.ensures c.in_ok-add_move.ensures)

pub returns : goal.returns
returns c = all moves_of_rule c.args.rules.now c.loop-rule.rule-index c.loop-rule-test.false c.args.moves.now c.loop-rule.moves c.loop-rule.invariant
