use Rattle.std.proofs.Common.{◌≡◌, ◌++◌, take}
use Rattle.std.specs.List.{flat_map}
use Rattle.pass_relevance.specs.Influences.{arcs_of_rule}
use Rattle.pass_relevance.proofs.influences.add_rules.Given as goal

abbrev pub invariant-loop-rule : goal.invariant-loop-rule
invariant-loop-rule l = l.arcs.items ≡ l.initial.arcs.items ++ flat_map arcs_of_rule (take l.rule-index l.rules)
