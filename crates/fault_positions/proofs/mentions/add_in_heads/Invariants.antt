use Rattle.std.proofs.Common.{◌≡◌, ◌++◌, take}
use Rattle.std.specs.List.{flat_map}
use Rattle.fault_positions.specs.Mentions.{in_head}
use Rattle.fault_positions.specs.Seen.{all_seen}
use Rattle.fault_positions.proofs.mentions.add_in_heads.Given as goal

abbrev pub invariant-loop-head : goal.invariant-loop-head
invariant-loop-head l = all_seen l.mentions.items ≡ all_seen l.initial.mentions.items ++ flat_map in_head (take l.head-index l.heads)
