use Rattle.std.proofs.Common.{◌≡◌, ◌≤◌, ◌*◌, length, sum_by, take}
use Rattle.run_task.proofs.sizes.facts.Given as goal

abbrev pub invariant-loop-i : goal.invariant-loop-i
invariant-loop-i l = record {
  sum : l.facts ≡ sum_by (λ v. length v.facts) (take l.i l.task.variables);
  bounded : l.facts ≤ l.i * 18446744073709551616;
}
