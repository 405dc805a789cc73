use Rattle.std.proofs.Common.{◌≡◌, map, length}
use Rattle.std.specs.List.{range_with_len}
use Rattle.pass_h2.specs.Facts.{facts_below}
use Rattle.pass_h2.proofs.facts.list_facts.Given as goal

abbrev pub invariant-loop-var : goal.invariant-loop-var
invariant-loop-var l = (l.facts.items ≡ facts_below l.task l.var) × (l.starts.items ≡ map (λ var. length (facts_below l.task var)) (range_with_len 0 l.var))
