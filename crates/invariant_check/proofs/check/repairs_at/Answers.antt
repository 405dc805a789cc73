use Rattle.std.proofs.Common.{List, map, filter, ap, ◌∙◌, take_all}
use Rattle.lists.proofs.Items.{same_filter}
use Rattle.invariant_check.specs.Extensions.{with_part}
use Rattle.contradictions.specs.declared.types.Part.{Part}
use Rattle.invariant_check.specs.Repairs.{balances_add}
use Rattle.invariant_check.proofs.BesideParts.{kept_made}
use Rattle.invariant_check.proofs.check.repairs_at.Goals as goal

pub returns : goal.returns
returns c =
    let task = c.args.normal.now in
    let place = c.args.place.now in
    let made = with_part task c.args.candidate.now in
    let repairs = balances_add task place in
    let near = λ (part : Part). repairs (with_part task c.in_ok-near.near part) in
    let items = c.as_slice-part-items.result.now in
    c.loop-part.invariant
    ∙ ap (λ (parts : List Part). map made (filter near parts)) (take_all c.loop-part.part-index items c.loop-part-test.false)
    ∙ ap (map made) (same_filter near (λ (part : Part). repairs (made part)) items (λ part there. c.in_ok-near.ensures part))
    ∙ kept_made made repairs items
    ∙ ap (λ (parts : List Part). filter repairs (map made parts)) c.as_slice-part-items.ensures.value
    ∙ c.in_ok-parts.ensures
