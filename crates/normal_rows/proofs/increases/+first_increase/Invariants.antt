use Rattle.std.proofs.Common.{◌≡◌, [], map, take}
use Rattle.std.specs.List.{flat_map}
use Rattle.pddl_syntax.specs.Step.{increases}
use Rattle.normal_rows.proofs.increases.+first_increase.Given as goal

abbrev pub invariant-first_increase_of-loop-member : goal.invariant-first_increase_of-loop-member
invariant-first_increase_of-loop-member l = flat_map (λ costs. costs) (map increases (take l.member-index l.members)) ≡ []
