use Rattle.std.proofs.Common.{take}
use Rattle.std.specs.List.{flat_map}
use Rattle.lists.specs.Rows.{Adds}
use Rattle.task_simplifier.specs.Moves.{moves_of_effect}
use Rattle.task_simplifier.proofs.moves.add_operator.Given as goal

abbrev pub invariant-loop-effect : goal.invariant-loop-effect
invariant-loop-effect l = Adds (λ var. flat_map (moves_of_effect var l.operator) (take l.effect-index l.operator.effects)) l.initial.moves l.moves
