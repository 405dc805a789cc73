use Rattle.std.proofs.Common.{ℕ, ◌<◌, ◌≤◌, length, map}
use Rattle.std.specs.List.{All}
use Rattle.group_cover.specs.Ranked.{group_at}
use Rattle.group_cover.specs.Waiting.{IsInBucket}
use Rattle.group_cover.proofs.buckets.buckets_by_length.Given as goal

abbrev pub invariant-loop-rank : goal.invariant-loop-rank
invariant-loop-rank l =
    All (λ group. length group.now ≤ length l.buckets.items) l.groups
    × ((rank : ℕ) → rank < l.rank → 2 ≤ length (group_at (map (λ group. group.now) l.groups) rank) →
    IsInBucket (map (λ bucket. bucket.items) l.buckets.items) rank (length (group_at (map (λ group. group.now) l.groups) rank)))
