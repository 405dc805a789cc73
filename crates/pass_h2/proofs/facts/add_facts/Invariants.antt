use Rattle.std.proofs.Common.{◌≡◌, ◌++◌, map}
use Rattle.std.specs.List.{range_with_len}
use Rattle.sas_task.specs.Pairs.{pair}
use Rattle.pass_h2.proofs.facts.add_facts.Given as goal

abbrev pub invariant-loop-val : goal.invariant-loop-val
invariant-loop-val l = l.facts.items ≡ l.initial.facts.items ++ map (pair l.var) (range_with_len 0 l.val)
