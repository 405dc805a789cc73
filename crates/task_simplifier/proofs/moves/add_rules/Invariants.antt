use Rattle.std.proofs.Common.{take}
use Rattle.std.specs.List.{flat_map}
use Rattle.lists.specs.Rows.{Adds}
use Rattle.task_simplifier.specs.Moves.{moves_of_rule}
use Rattle.task_simplifier.proofs.moves.add_rules.Given as goal

abbrev pub invariant-loop-rule : goal.invariant-loop-rule
invariant-loop-rule l = Adds (λ var. flat_map (moves_of_rule var) (take l.rule-index l.rules)) l.initial.moves l.moves
