use Rattle.std.proofs.Common.{◌≡◌, ◌∷◌, map, filter, take}
use Rattle.contradictions.specs.Common.{objects_in}
use Rattle.contradictions.specs.Contradictory.{objects_of}
use Rattle.contradictions.specs.Merges.{all_ranges, have_one_leader}
use Rattle.contradictions.proofs.common.class_of.Given as goal

abbrev pub invariant-loop-other : goal.invariant-loop-other
invariant-loop-other l =
    map objects_in l.class.items ≡ objects_of (all_ranges l.ranges) l.term ∷ map (objects_of (all_ranges l.ranges)) (filter (have_one_leader l.merges l.term) (take l.other-index l.terms))
