use Rattle.std.proofs.Common.{◌≡◌, ◌++◌, take}
use Rattle.std.specs.List.{flat_map}
use Rattle.fault_positions.specs.Mentions.{in_init}
use Rattle.fault_positions.specs.Seen.{all_seen}
use Rattle.fault_positions.proofs.mentions.add_in_init.Given as goal

abbrev pub invariant-loop-entry : goal.invariant-loop-entry
invariant-loop-entry l = all_seen l.mentions.items ≡ all_seen l.initial.mentions.items ++ flat_map in_init (take l.entry-index l.init)
