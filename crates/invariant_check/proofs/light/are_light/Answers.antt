use Rattle.std.proofs.Common.{◌≡◌, true, sym, ap, ◌∙◌}
use Rattle.normal_task.specs.declared.task.Place.TheVariants.{Object}
use Rattle.contradictions.specs.Candidates.{at_positions}
use Rattle.invariant_check.specs.Accepted.{instance_of}
use Rattle.invariant_check.specs.Attempts.{name_two}
use Rattle.invariant_check.proofs.AtOnce.{two_instances}
use Rattle.invariant_check.proofs.light.are_light.Goals as goal

pub returns-then-name_two : goal.returns-then-name_two
returns-then-name_two c =
    let part = c.args.one.now.part.now in
    let e = c.args.one.now.row.now in
    let other = c.args.other.now.part.now in
    let f = c.args.other.now.row.now in
    let first : at_positions (Object 0) c.as_slice.result.now c.as_slice-2.result.now ≡ instance_of part e =
    ap (λ positions. at_positions (Object 0) positions c.as_slice-2.result.now) c.as_slice.ensures ∙ ap (at_positions (Object 0) part.places) c.as_slice-2.ensures in
    let second : at_positions (Object 0) c.as_slice-3.result.now c.as_slice-4.result.now ≡ instance_of other f =
    ap (λ positions. at_positions (Object 0) positions c.as_slice-4.result.now) c.as_slice-3.ensures ∙ ap (at_positions (Object 0) other.places) c.as_slice-4.ensures in
    sym (two_instances c.args.candidate.now c.args.schema.now part e other f
    (sym (ap (λ xs. name_two xs (at_positions (Object 0) c.as_slice-3.result.now c.as_slice-4.result.now)) first ∙ ap (name_two (instance_of part e)) second) ∙ sym c.name_two.ensures ∙ c.if-name_two.true))
