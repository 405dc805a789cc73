use Rattle.task_simplifier.proofs.KeptMoves.{AllListed}
use Rattle.task_simplifier.proofs.kept.kept_values.Given as goal

abbrev pub invariant-loop-var : goal.invariant-loop-var
invariant-loop-var l = AllListed l.task l.var l.kept.items
