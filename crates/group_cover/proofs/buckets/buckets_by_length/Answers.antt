-- One group more in the bucket for its length.
use Rattle.std.proofs.Common.{ℕ, ◌<◌, ◌≤◌, [], List, Vec, Global, map, get_or, length, subst, sym, arith}
use Rattle.std.proofs.lemmas.List.{get_or-map, length-map}
use denote.Ref.{Bor}
use borrow.Author.Count.{below_more}
use Rattle.group_cover.specs.Ranked.{group_at}
use Rattle.group_cover.specs.Waiting.{IsInBucket}
use Rattle.group_cover.proofs.Waiting.{started}
use Rattle.group_cover.proofs.buckets.buckets_by_length.Goals as goal

in_bucket : (groups : List (Bor (List ℕ))) (rank : ℕ) (d : Bor (List ℕ)) (buckets : List (List ℕ)) → rank < length groups → (2 ≤ length (get_or groups rank d).now → IsInBucket buckets rank (length (get_or groups rank d).now)) →
    2 ≤ length (group_at (map (λ group. group.now) groups) rank) → IsInBucket buckets rank (length (group_at (map (λ group. group.now) groups) rank))
in_bucket groups rank d buckets within = subst (λ (group : List ℕ). 2 ≤ length group → IsInBucket buckets rank (length group)) (sym (get_or-map (λ (group : Bor (List ℕ)). group.now) groups rank d [] within))

pub loop-rank-preserved : goal.loop-rank-preserved
loop-rank-preserved c =
    let groups = map (λ group. group.now) c.args.groups.now in
    let items = λ (bucket : Vec ℕ Global). bucket.items in
    let new = map items c.put.new.buckets.items in
    let same = c.in_ok-put.ensures.as_many in (
      λ k d within. let low = c.loop-rank.invariant.0 k d within in omega (arith, low, same),
      below_more (λ (rank : ℕ). 2 ≤ length (group_at groups rank) → IsInBucket new rank (length (group_at groups rank))) c.loop-rank.rank
          (λ rank below several. c.in_ok-put.ensures.kept rank (length (group_at groups rank)) (c.loop-rank.invariant.1 rank below several))
          (λ several. in_bucket c.args.groups.now c.loop-rank.rank _ new c.loop-rank-test.true c.in_ok-put.ensures.put several),
    )

pub returns : goal.returns
returns c full =
    let groups = map (λ group. group.now) c.args.groups.now in
    let items = λ (bucket : Vec ℕ Global). bucket.items in
    let long = length-map c.args.groups.now (λ group. group.now) in
    let all = c.loop-rank-test.false in
    started full groups (map items c.loop-rank.buckets.items) (λ rank low several. c.loop-rank.invariant.1 rank (omega (arith, long, all, low)) several)
