use Rattle.std.proofs.Common.{[], length, map}
use Rattle.group_cover.specs.Waiting.{IsReached}
use Rattle.group_cover.proofs.buckets.sets_in_turn.Given as goal

abbrev pub invariant-loop-opened : goal.invariant-loop-opened
invariant-loop-opened l = IsReached l.full (map (λ group. group.now) l.groups) l.sets (map (λ bucket. bucket.items) l.buckets.items) []

abbrev pub decreases-loop-opened : goal.decreases-loop-opened
decreases-loop-opened l = length l.buckets.items
