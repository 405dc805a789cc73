use Rattle.std.proofs.Common.{◌≡◌, drop}
use Rattle.std.specs.List.{list_any}
use Rattle.contradictions.specs.Contradictory.{has_no_object}
use Rattle.contradictions.specs.Merges.{all_ranges, have_one_leader}
use Rattle.contradictions.proofs.common.some_has_no_object.Given as goal

abbrev pub invariant-loop-term : goal.invariant-loop-term
invariant-loop-term l = list_any (has_no_object (have_one_leader l.merges) (all_ranges l.ranges) l.terms) l.terms ≡ list_any (has_no_object (have_one_leader l.merges) (all_ranges l.ranges) l.terms) (drop l.term-index l.terms)
