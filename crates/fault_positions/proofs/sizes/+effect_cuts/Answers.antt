use Rattle.fault_positions.proofs.EffectCuts.{first_in_when, members_after}
use Rattle.fault_positions.proofs.sizes.+effect_cuts.Goals as goal

pub first_in_effect-returns-in-When : goal.first_in_effect-returns-in-When
first_in_effect-returns-in-When t c =
    first_in_when c.in-When.condition c.in-When.inside c.in-When.field-2 c.args.effect.now c.get.result.now c.in-When.is c.get.ensures c.args.around
    c.of_parts.result c.size_of.result c.paired_with-size.result c.position_of.result c.first_at.result c.first_in_effect-first_inside.result c.earlier.result
    c.of_parts.ensures c.size_of.ensures c.paired_with-size.ensures c.position_of.ensures c.first_at.ensures c.first_in_effect-first_inside.ensures c.earlier.ensures

pub first_in_effects-loop-member-preserved : goal.first_in_effects-loop-member-preserved
first_in_effects-loop-member-preserved t c =
    members_after c.args.around c.args.members.now c.loop-member.member-index c.member-item.result c.loop-member-test.true c.member-item.is
    c.loop-member.first c.first_in_effect.result c.earlier-first.result c.loop-member.invariant c.first_in_effect.ensures c.earlier-first.ensures
