-- The parts of all orders, as the iterator over permutations gives them.
use Rattle.std.proofs.Common.{◌≡◌, ℕ, ◌-◌, List, [], ◌++◌, map, length, append-nil, refl, sym, ap, ◌∙◌, subst}
use Rattle.std.specs.Vec.{vec_len}
use Rattle.itertools.specs.Odometer.{numbers, ways}
use Rattle.itertools.specs.Pool.{unranked, permutation_left, ClonesAt}
use Rattle.invariant_check.specs.Extensions.{part_at}
use Rattle.invariant_check.proofs.Orders.{read, AllInside, all_inside, clones-are, left_at_start, all_parts, one_more}
use Rattle.invariant_check.proofs.extensions.push_orders.Goals as goal

pub loop-places-init : goal.loop-places-init
loop-places-init c =
    let it = c.into_iter-places-iterator.result in
    let begun = left_at_start it (length c.args.positions.now) (subst (λ t. permutation_left t ≡ ways (λ _. 0) (λ chosen. vec_len t.pool - length chosen) (length c.args.positions.now) []) (sym c.into_iter-places-iterator.ensures.into_iter_gives) c.in_ok-places-items.ensures.places) in
    record {
      pool = refl;
      left = refl;
      inside = subst (AllInside (length it.pool.items)) (sym begun) (all_inside (length it.pool.items) (length c.args.positions.now));
    }

pub loop-places-preserved : goal.loop-places-preserved
loop-places-preserved c =
    let invariant = c.loop-places.invariant in
    let before = c.loop-places.places-iterator in
    let after = c.next.new.self in
    let pool = c.into_iter-places-iterator.result.pool.items in
    let step = c.in-Some.ensures.steps in
    let given = rw c.in_ok-places.was at step.1 in
    let places = c.in_ok-places.field-0.items in
    let inside = subst (AllInside (length pool)) given.1 invariant.inside in
    let clones = subst (λ p. ClonesAt (λ x y. y ≡ x) p (unranked (numbers 0 (length p)) given.0) places) invariant.pool given.2 in
    let are = clones-are pool (unranked (numbers 0 (length pool)) given.0) places inside.0 clones in
    record {
      pool = sym step.0 ∙ invariant.pool;
      left = one_more (λ ds. part_at c.args.predicate c.args.counted (read pool ds)) c.loop-places.parts.items c.push.new.self.items _ (permutation_left before) (permutation_left after) given.0 (part_at c.args.predicate c.args.counted c.from_vec.result) c.in_ok-push.ensures.items given.1 (ap (part_at c.args.predicate c.args.counted) (c.from_vec.ensures ∙ are)) invariant.left;
      inside = inside.1;
    }

pub returns : goal.returns
returns c =
    let it = c.into_iter-places-iterator.result in
    let pool = it.pool.items in
    let f = λ (ds : List ℕ). part_at c.args.predicate c.args.counted (read pool ds) in
    let ended = c.in-None.ensures.steps.1 in
    let begun = left_at_start it (length c.args.positions.now) (subst (λ t. permutation_left t ≡ ways (λ _. 0) (λ chosen. vec_len t.pool - length chosen) (length c.args.positions.now) []) (sym c.into_iter-places-iterator.ensures.into_iter_gives) c.in_ok-places-items.ensures.places) in
    let handed = ap (λ t. t.pool.items) c.into_iter-places-iterator.ensures.into_iter_gives ∙ c.in_ok-places-items.ensures.pool in
    sym (append-nil c.loop-places.parts.items)
    ∙ ap (λ l. c.loop-places.parts.items ++ map f l) (sym ended)
    ∙ c.loop-places.invariant.left
    ∙ ap (λ l. c.args.parts.now.items ++ map f l) begun
    ∙ ap (λ l. c.args.parts.now.items ++ l) (all_parts c.args.predicate c.args.counted pool c.args.positions.now (length c.args.positions.now) handed c.requires)
