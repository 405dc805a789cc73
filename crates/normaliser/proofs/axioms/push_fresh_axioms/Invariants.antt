use Rattle.std.proofs.Common.{◌≡◌, ◌++◌, take}
use Rattle.normal_task.specs.Normalised as spec
use Rattle.normaliser.proofs.axioms.push_fresh_axioms.Given as goal

abbrev pub invariant-loop-number : goal.invariant-loop-number
invariant-loop-number l = l.rows.items ≡ l.initial.rows.items ++ spec.fresh_rows l.numbering.domain l.numbering.problem 0 (take l.number l.fresh)
