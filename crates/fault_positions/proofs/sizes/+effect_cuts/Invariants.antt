use Rattle.std.proofs.Common.{◌≡◌, map, take}
use Rattle.std.specs.List.{flat_map}
use Rattle.fault_positions.specs.Positions.{earliest}
use Rattle.fault_positions.specs.Sizes.{effect_cuts, too_large}
use Rattle.fault_positions.proofs.sizes.+effect_cuts.Given as goal

abbrev pub invariant-first_in_effects-loop-member : goal.invariant-first_in_effects-loop-member
invariant-first_in_effects-loop-member l = l.first ≡ earliest (too_large (flat_map (λ member. member l.around) (map effect_cuts (take l.member-index l.members))))
