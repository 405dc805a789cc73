use Rattle.std.proofs.Common.{◌≡◌, ◌∙◌, ap, subst}
use Rattle.std.specs.Prelude.{IfOk}
use Rattle.std.specs.List.{list_any}
use Rattle.normal_task.specs.declared.task.Place.TheVariants.{Object}
use Rattle.contradictions.specs.Candidates.{at_positions}
use Rattle.invariant_check.specs.Accepted.{required, instance_of}
use Rattle.invariant_check.specs.Attempts.{balances_somehow}
use Rattle.invariant_check.proofs.Matching.{some_delete}
use Rattle.invariant_check.proofs.balanced.has_balance_with.Goals as goal

pub returns : goal.returns
returns c =
    let task = c.args.normal.now in
    let candidate = c.args.candidate.now in
    let schema = c.args.schema.now in
    let row = c.args.row.now in
    let same : at_positions (Object 0) c.as_slice.result.now c.as_slice-2.result.now ≡ instance_of c.args.part.now row =
    ap (λ positions. at_positions (Object 0) positions c.as_slice-2.result.now) c.as_slice.ensures ∙ ap (at_positions (Object 0) c.args.part.now.places) c.as_slice-2.ensures in
    subst (λ b. IfOk c.some_balances.result (λ answer. answer ≡ b))
    (ap (λ literals. list_any (balances_somehow task candidate schema row literals c.as_slice-3.result.now) schema.effects) c.requires
    ∙ ap (λ terms. list_any (balances_somehow task candidate schema row (required schema row) terms) schema.effects) (c.as_slice-3.ensures.value ∙ c.in_ok-instance.ensures ∙ same)
    ∙ some_delete task candidate schema c.args.part.now row)
    c.some_balances.ensures
