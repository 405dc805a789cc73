use Rattle.std.proofs.Common.{eqb, take}
use Rattle.std.specs.List.{list_any}
use Rattle.task_simplifier.specs.Tallies.{AreCounted}
use Rattle.task_simplifier.proofs.tallies.count_changes.Given as goal

abbrev pub invariant-loop-effect : goal.invariant-loop-effect
invariant-loop-effect l = AreCounted l.turn (λ v. list_any (λ e. eqb e.var v) (take l.effect-index l.operator.effects)) l.fn.tallies l.tallies
