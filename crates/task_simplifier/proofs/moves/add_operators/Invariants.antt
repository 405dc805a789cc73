use Rattle.std.proofs.Common.{take}
use Rattle.std.specs.List.{flat_map}
use Rattle.lists.specs.Rows.{Adds}
use Rattle.task_simplifier.specs.Moves.{moves_of_operator}
use Rattle.task_simplifier.proofs.moves.add_operators.Given as goal

abbrev pub invariant-loop-operator : goal.invariant-loop-operator
invariant-loop-operator l = Adds (λ var. flat_map (moves_of_operator var) (take l.operator-index l.operators)) l.initial.moves l.moves
