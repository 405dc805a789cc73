use Rattle.std.proofs.Common.{◌≡◌, ℕ, List, ◌<◌, ◌-◌, length, get_or, ap, ◌∙◌, subst, arith}
use Rattle.std.proofs.lemmas.List.{length-replicate, get_or-replicate}
use Rattle.sas_restriction.proofs.Places.{ArePlaces, no_places, one_place, all_places}
use Rattle.sas_restriction.proofs.chosen.places.Goals as goal

pub loop-i-init : goal.loop-i-init
loop-i-init c =
    let items = c.in_ok-places.ensures.items_if_clones_equal (λ y same. same) in
    no_places c.args.vars.now c.args.count c.in_ok-places.places.items (ap (λ (l : List ℕ). length l) items ∙ length-replicate c.args.count (length c.args.vars.now)) (λ v below. ap (λ (l : List ℕ). get_or l v 0) items ∙ get_or-replicate c.args.count v (length c.args.vars.now) 0 below)

pub bounds-vars-i : goal.bounds-vars-i
bounds-vars-i c =
    let low = c.loop-i.invariant.low in
    let some = c.loop-i-test.true in
    omega arith

pub index_mut-requires : goal.index_mut-requires
index_mut-requires c =
    let low = c.loop-i.invariant.low in
    let some = c.loop-i-test.true in
    let within : c.loop-i.i - 1 < length c.args.vars.now = omega arith in
    let below = c.requires (c.loop-i.i - 1) 0 within in
    let count = c.loop-i.invariant.count_is in
    let len = c.loop-i.places.ok.0 in
    omega (arith, below, count, len)

pub loop-i-preserved : goal.loop-i-preserved
loop-i-preserved c = one_place c.args.vars.now c.args.count c.loop-i.i c.loop-i.places.items c.loop-i-test.true c.loop-i.invariant

pub returns : goal.returns
returns c =
    let done : c.loop-i.i ≡ 0 = let f = c.loop-i-test.false in omega arith in
    all_places c.args.vars.now c.args.count c.loop-i.places.items (subst (λ i. ArePlaces c.args.vars.now c.args.count i c.loop-i.places.items) done c.loop-i.invariant)
