use Rattle.std.proofs.Common.{◌≡◌, ◌-◌, ◌≤◌, filter}
use Rattle.std.specs.List.{range_with_len}
use Rattle.pass_h2.specs.Bits.{mark_at}
use Rattle.pass_h2.proofs.marks.marked_places.Given as goal

abbrev pub invariant-loop-place : goal.invariant-loop-place
invariant-loop-place l = (l.place ≤ l.count) × (l.places.items ≡ filter (mark_at l.words) (range_with_len 0 l.place))

abbrev pub decreases-loop-place : goal.decreases-loop-place
decreases-loop-place l = l.count - l.place
