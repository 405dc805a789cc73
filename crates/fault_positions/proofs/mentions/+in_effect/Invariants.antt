use Rattle.std.proofs.Common.{◌≡◌, ◌++◌, map, take}
use Rattle.std.specs.List.{flat_map}
use Rattle.fault_positions.specs.Mentions.{in_effect}
use Rattle.fault_positions.specs.Seen.{all_seen}
use Rattle.fault_positions.proofs.mentions.+in_effect.Given as goal

abbrev pub invariant-add_in_effects-loop-member : goal.invariant-add_in_effects-loop-member
invariant-add_in_effects-loop-member l =
    all_seen l.mentions.items ≡ all_seen l.initial.mentions.items ++ flat_map (λ member. member) (map in_effect (take l.member-index l.members))
