use Rattle.std.proofs.Common.{◌≡◌, ◌++◌, take}
use Rattle.std.specs.List.{flat_map}
use Rattle.fault_positions.specs.Mentions.{in_action}
use Rattle.fault_positions.specs.Seen.{all_seen}
use Rattle.fault_positions.proofs.mentions.add_in_actions.Given as goal

abbrev pub invariant-loop-action : goal.invariant-loop-action
invariant-loop-action l = all_seen l.mentions.items ≡ all_seen l.initial.mentions.items ++ flat_map in_action (take l.action-index l.actions)
