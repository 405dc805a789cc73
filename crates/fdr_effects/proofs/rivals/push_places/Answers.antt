-- Place by place.
use Rattle.std.proofs.Common.{List, ◌++◌, map, get_or, take_all, ap, ◌∙◌}
use Rattle.std.proofs.lemmas.List.{get_or_default, map-append}
use Rattle.lists.proofs.LoopSteps.{map_turn}
use Rattle.sas_task.specs.declared.parts.Pair.{Pair}
use Rattle.sas_task.specs.Pairs.{pair}
use Rattle.fdr_effects.specs.Rivals.{seen}
use Rattle.fdr_effects.proofs.rivals.push_places.Goals as goal

pub loop-place-preserved : goal.loop-place-preserved
loop-place-preserved c =
    let places = c.args.places.now in
    let i = c.loop-place.place-index in
    let place = get_or places i (pair 0 0) in
    let out = c.loop-place.out.items in
    map_turn places i place c.loop-place-test.true (get_or_default places i (pair 0 0) place c.loop-place-test.true) (λ (p : Pair). (p.var, c.args.condition.now)) (map seen c.args.out.now.items) (map seen out) _ c.loop-place.invariant
    (ap (map seen) c.in_ok-push.ensures.items ∙ map-append seen out _)

pub returns : goal.returns
returns c =
    c.loop-place.invariant
    ∙ ap (λ (ps : List Pair). map seen c.args.out.now.items ++ map (λ (p : Pair). (p.var, c.args.condition.now)) ps) (take_all c.loop-place.place-index c.args.places.now c.loop-place-test.false)
