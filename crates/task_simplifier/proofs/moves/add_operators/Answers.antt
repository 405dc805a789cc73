use Rattle.task_simplifier.specs.Moves.{moves_of_operator}
use Rattle.lists.proofs.RowSteps.{nothing, next, all}
use Rattle.task_simplifier.proofs.moves.add_operators.Goals as goal

pub loop-operator-init : goal.loop-operator-init
loop-operator-init c = nothing c.args.moves.now

pub loop-operator-preserved : goal.loop-operator-preserved
loop-operator-preserved c =
    next moves_of_operator c.args.operators.now c.loop-operator.operator-index c.operator-item.result c.loop-operator-test.true c.operator-item.is c.args.moves.now c.loop-operator.moves c.add_operator.new.moves c.loop-operator.invariant c.in_ok-add_operator.ensures

pub returns : goal.returns
returns c = all moves_of_operator c.args.operators.now c.loop-operator.operator-index c.loop-operator-test.false c.args.moves.now c.loop-operator.moves c.loop-operator.invariant
