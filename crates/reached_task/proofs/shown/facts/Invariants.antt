use Rattle.std.proofs.Common.{◌≡◌, map, take}
use Rattle.reached_task.specs.AtomKeys.{atom_of}
use Rattle.reached_task.specs.Reachable.{fact_of}
use Rattle.reached_task.proofs.shown.facts.Given as goal

abbrev pub invariant-loop-predicate : goal.invariant-loop-predicate
invariant-loop-predicate l = l.facts.items ≡ map (λ key. fact_of l.task (atom_of key)) (take l.predicate-index l.predicate-items)
