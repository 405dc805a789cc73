use Rattle.std.proofs.Common.{◌∙◌, sym}
use Rattle.contradictions.proofs.SamePlaces.{all_goes_on, all_stops}
use Rattle.invariant_check.specs.Accepted.{part_passes, is_light_beside}
use Rattle.invariant_check.proofs.light.is_light_beside_parts.Goals as goal

pub returns-then-not-branch : goal.returns-then-not-branch
returns-then-not-branch c =
    all_stops (part_passes (is_light_beside c.args.candidate.now c.args.schema.now c.args.one.now.part.now c.args.one.now.row.now) c.args.row.now)
    c.args.candidate.now.parts c.as_slice-part-items.result.now c.as_slice-part-items.ensures c.loop-part.part-index c.part-item.result c.loop-part-test.true c.part-item.is c.loop-part.invariant
    (sym c.in_ok-are_light.ensures ∙ c.if-not-branch.true)

pub loop-part-preserved : goal.loop-part-preserved
loop-part-preserved c =
    all_goes_on (part_passes (is_light_beside c.args.candidate.now c.args.schema.now c.args.one.now.part.now c.args.one.now.row.now) c.args.row.now)
    c.args.candidate.now.parts c.as_slice-part-items.result.now c.as_slice-part-items.ensures c.loop-part.part-index c.part-item.result c.loop-part-test.true c.part-item.is c.loop-part.invariant
    (sym c.in_ok-are_light.ensures ∙ c.if-not-branch.false)
