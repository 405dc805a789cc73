use Rattle.std.proofs.Common.{◌≡◌, map, take}
use Rattle.fault_positions.specs.CappedSizes.{capped}
use Rattle.fault_positions.specs.Sizes.{size_of, paired, listed}
use Rattle.fault_positions.proofs.sizes.+size_of.Given as goal

abbrev pub invariant-size_paired-loop-member : goal.invariant-size_paired-loop-member
invariant-size_paired-loop-member l = l.all ≡ capped (paired (map (λ member. member l.positive) (map size_of (take l.member-index l.members))))

abbrev pub invariant-size_listed-loop-member : goal.invariant-size_listed-loop-member
invariant-size_listed-loop-member l = l.all ≡ capped (listed (map (λ member. member l.positive) (map size_of (take l.member-index l.members))))
