-- One effect more, and all of them.
use Rattle.std.proofs.Common.{sym, ap, ◌∙◌}
use Rattle.std.specs.List.{flat_map}
use Rattle.std.proofs.lemmas.Iterator.Adapters.{YieldsList-from_vec}
use Rattle.std.proofs.lemmas.Iterator.Consumers.{YieldsList-end}
use Rattle.lists.proofs.Items.{map_itself}
use Rattle.sas_restriction.proofs.Pieces.{kept_piece, kept_pieces, piece_yielded}
use Rattle.sas_restriction.specs.Listed.{chosen}
use Rattle.sas_restriction.specs.Choice.{effect_stays, new_effect}
use Rattle.sas_restriction.proofs.parts.effects_left.Goals as goal

pub loop-effect-preserved : goal.loop-effect-preserved
loop-effect-preserved c =
    piece_yielded (kept_piece (effect_stays (chosen c.args.shown.now)) (new_effect (chosen c.args.shown.now))) c.loop-effect.yielded c.in-Some.effect c.loop-effect.effects.items c.add_effect.new.effects.items
    c.loop-effect.invariant c.in_ok-add_effect.ensures

pub returns : goal.returns
returns c =
    let given = c.into_iter-effect-iterator.ensures.into_iter_gives in
    let end = YieldsList-end (YieldsList-from_vec {s = c.into_iter-effect-iterator.result} c.args.old.items given.0 (given.1 ∙ c.args.old.ok.0)) c.loop-effect.yielded c.loop-effect.effect-iterator c.loop-effect.yielded_by c.next.result c.next.new.self c.in-None.is c.next.ensures.steps in
    c.loop-effect.invariant
    ∙ ap (flat_map (kept_piece (effect_stays (chosen c.args.shown.now)) (new_effect (chosen c.args.shown.now)))) (sym (map_itself c.loop-effect.yielded) ∙ end.0)
    ∙ sym (kept_pieces (effect_stays (chosen c.args.shown.now)) (new_effect (chosen c.args.shown.now)) c.args.old.items)
