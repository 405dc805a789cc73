use Rattle.std.proofs.Common.{◌≡◌, ◌++◌, take}
use Rattle.std.specs.List.{flat_map}
use Rattle.fault_positions.specs.Mentions.{in_axiom}
use Rattle.fault_positions.specs.Seen.{all_seen}
use Rattle.fault_positions.proofs.mentions.add_in_axioms.Given as goal

abbrev pub invariant-loop-rule : goal.invariant-loop-rule
invariant-loop-rule l = all_seen l.mentions.items ≡ all_seen l.initial.mentions.items ++ flat_map in_axiom (take l.rule-index l.axioms)
