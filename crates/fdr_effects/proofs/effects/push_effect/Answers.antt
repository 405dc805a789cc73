-- Place by place.
use Rattle.std.proofs.Common.{◌++◌, cond, get_or, take_all, ap, ◌∙◌}
use Rattle.std.specs.List.{flat_map}
use Rattle.std.proofs.lemmas.List.{get_or_default}
use Rattle.lists.proofs.LoopSteps.{flat_map_turn}
use Rattle.sas_task.specs.declared.parts.Pair.{Pair}
use Rattle.sas_task.specs.Pairs.{pair}
use Rattle.fdr_effects.specs.Effects.{sets_where, deletes_in}
use Rattle.fdr_effects.proofs.effects.push_effect.Goals as goal

pub loop-place-preserved : goal.loop-place-preserved
loop-place-preserved c effects are =
    let e = c.args.effect.now in
    let f = λ (p : Pair). cond e.adds (sets_where c.args.index.now p e.condition) (deletes_in c.args.index.now effects e p.var) in
    let i = c.loop-place.place-index in
    let items = c.places-place-items.result.now in
    let place = get_or items i (pair 0 0) in
    flat_map_turn items i place c.loop-place-test.true (get_or_default items i (pair 0 0) place c.loop-place-test.true) f c.args.out.now.items c.loop-place.out.items c.push_at.new.out.items (c.loop-place.invariant effects are) (c.in_ok-push_at.ensures effects are)

pub returns : goal.returns
returns c effects are =
    let e = c.args.effect.now in
    let f = λ (p : Pair). cond e.adds (sets_where c.args.index.now p e.condition) (deletes_in c.args.index.now effects e p.var) in
    c.loop-place.invariant effects are ∙ ap (λ ps. c.args.out.now.items ++ flat_map f ps) (take_all c.loop-place.place-index c.places-place-items.result.now c.loop-place-test.false ∙ c.places-place-items.ensures)
