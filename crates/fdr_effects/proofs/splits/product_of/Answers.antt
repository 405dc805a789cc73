-- Each way to take a pair from each pool.
use Rattle.std.proofs.Common.{◌≡◌, [], ◌++◌, map, append-nil, refl, sym, ap, ◌∙◌, subst}
use Rattle.std.specs.List.{Contains}
use Rattle.std.specs.Vec.{vec_len}
use Rattle.itertools.specs.Odometer.{ways}
use Rattle.itertools.specs.Pool.{multi_left, sizes_high, pool_sizes, ClonesEach}
use Rattle.lists.proofs.Members.{member_first, member_later}
use Rattle.fdr_effects.proofs.Combined.{items, read, low, taken, taken_are, all_ways, all_fit, read_is, ways_of, one_taken}
use Rattle.fdr_effects.proofs.splits.product_of.Goals as goal

pub loop-member-init : goal.loop-member-init
loop-member-init c =
    let it = c.into_iter-member-iterator.result in
    let pools = items it.pools.items in
    let begun = ways_of it (subst (λ t. multi_left t ≡ ways low (sizes_high (pool_sizes t.pools.items)) (vec_len t.pools) []) (sym c.into_iter-member-iterator.ensures.into_iter_gives) c.in_ok-member-items.ensures.places) in (
      refl,
      ap (λ l. l ++ map (read pools) (multi_left it)) c.new-all.ensures.items,
      λ way in'. all_fit pools way (subst (λ l. Contains l way) begun in'),
    )

pub loop-member-preserved : goal.loop-member-preserved
loop-member-preserved c =
    let invariant = c.loop-member.invariant in
    let before = c.loop-member.member-iterator in
    let after = c.next.new.self in
    let start = c.into_iter-member-iterator.result in
    let step = c.in-Some.ensures.steps in
    let given = rw c.in_ok-member.was at step.1 in
    let member = c.in_ok-member.field-0.items in
    let fit = invariant.2 given.0 (subst (λ l. Contains l given.0) (sym given.1) (member_first given.0 (multi_left after))) in
    let was_read = read_is (λ x y. y ≡ x) (λ x y e. e) start.pools.items given.0 member fit (subst (λ ps. ClonesEach (λ x y. y ≡ x) ps given.0 member) (sym invariant.0) given.2) in (
      invariant.0 ∙ step.0,
      one_taken (read (items start.pools.items)) c.loop-member.all.items c.push.new.self.items given.0 (multi_left before) (multi_left after) c.from_vec.result c.in_ok-push.ensures.items given.1 (c.from_vec.ensures ∙ was_read) ∙ invariant.1,
      λ way in'. invariant.2 way (subst (λ l. Contains l way) (sym given.1) (member_later given.0 way (multi_left after) in')),
    )

pub returns : goal.returns
returns c values vars same =
    let it = c.into_iter-member-iterator.result in
    let pools = items it.pools.items in
    let ended = c.in-None.ensures.steps.1 in
    let begun = ways_of it (subst (λ t. multi_left t ≡ ways low (sizes_high (pool_sizes t.pools.items)) (vec_len t.pools) []) (sym c.into_iter-member-iterator.ensures.into_iter_gives) c.in_ok-member-items.ensures.places) in
    let handed = ap (λ t. items t.pools.items) c.into_iter-member-iterator.ensures.into_iter_gives ∙ c.in_ok-member-items.ensures.pools ∙ same in
    sym (append-nil c.loop-member.all.items)
    ∙ ap (λ l. c.loop-member.all.items ++ map (read pools) l) (sym ended)
    ∙ c.loop-member.invariant.1
    ∙ ap (map (read pools)) begun
    ∙ all_ways pools
    ∙ ap taken handed
    ∙ taken_are values vars
