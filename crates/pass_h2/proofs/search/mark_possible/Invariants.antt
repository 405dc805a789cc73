use Rattle.sas_task.specs.Valid.{IsValid}
use Rattle.pass_h2.proofs.EmptyQueue.{Between, measure}
use Rattle.pass_h2.proofs.search.mark_possible.Given as goal

abbrev pub invariant-loop-operators : goal.invariant-loop-operators
invariant-loop-operators l = (valid : IsValid l.task) → Between l.task valid l.table l.queue.items

abbrev pub decreases-loop-operators : goal.decreases-loop-operators
decreases-loop-operators l = measure l.table l.queue.items
