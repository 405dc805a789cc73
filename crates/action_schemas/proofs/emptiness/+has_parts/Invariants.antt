use Rattle.std.proofs.Common.{◌≡◌, map, take}
use Rattle.std.specs.Prelude.{nat_lt}
use Rattle.fault_positions.specs.Sizes.{listed, paired, size_of}
use Rattle.action_schemas.proofs.emptiness.+has_parts.Given as goal

abbrev pub invariant-all_have_parts-loop-member : goal.invariant-all_have_parts-loop-member
invariant-all_have_parts-loop-member l = l.all ≡ nat_lt 0 (paired (map (λ member. member l.positive) (map size_of (take l.member-index l.members)))).parts

abbrev pub invariant-one_has_parts-loop-member : goal.invariant-one_has_parts-loop-member
invariant-one_has_parts-loop-member l = l.one ≡ nat_lt 0 (listed (map (λ member. member l.positive) (map size_of (take l.member-index l.members)))).parts
