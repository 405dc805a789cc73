use Rattle.std.proofs.Common.{◌≡◌, ◌++◌, take}
use Rattle.pddl_syntax.specs.declared.types.Domain.{Domain}
use Rattle.pddl_syntax.specs.declared.types.Problem.{Problem}
use Rattle.normal_task.specs.Normalised as spec
use Rattle.normaliser.proofs.predicates.push_fresh_rows.Given as goal

abbrev pub invariant-loop-number : goal.invariant-loop-number
invariant-loop-number l = (domain : Domain) (problem : Problem) → l.rows.items ≡ l.initial.rows.items ++ spec.fresh_predicates domain problem 0 (take l.number l.fresh)
