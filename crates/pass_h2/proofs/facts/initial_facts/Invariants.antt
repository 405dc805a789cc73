use Rattle.std.proofs.Common.{◌≡◌, map, get_or}
use Rattle.std.specs.List.{range_with_len}
use Rattle.sas_task.specs.Pairs.{pair}
use Rattle.pass_h2.proofs.facts.initial_facts.Given as goal

abbrev pub invariant-loop-var : goal.invariant-loop-var
invariant-loop-var l = l.facts.items ≡ map (λ var. pair var (get_or l.task.state var 0)) (range_with_len 0 l.var)
