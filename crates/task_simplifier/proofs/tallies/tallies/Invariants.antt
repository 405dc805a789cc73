use Rattle.std.proofs.Common.{◌≡◌, take}
use Rattle.task_simplifier.specs.Tallies.{AreTallies}
use Rattle.task_simplifier.proofs.tallies.tallies.Given as goal

abbrev pub invariant-loop-operator : goal.invariant-loop-operator
invariant-loop-operator l = (l.turn ≡ l.operator-index) × AreTallies l.task l.turn (take l.operator-index l.task.operators) l.tallies.items
