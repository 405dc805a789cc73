use Rattle.std.proofs.Common.{refl, sym, ◌∙◌}
use Rattle.invariant_check.specs.declared.types.Verdict.TheVariants.{Dropped, Unbalanced}
use Rattle.invariant_guess.proofs.Trying.{one_kept, nothing_kept, whatever}
use Rattle.invariant_guess.proofs.guess.try_one.Goals as goal

pub returns-in_ok-push-in-Accepted-clause-kept : goal.returns-in_ok-push-in-Accepted-clause-kept
returns-in_ok-push-in-Accepted-clause-kept c =
    one_kept c.args.table.now.normal.now c.args.candidate.now c.in_ok-copy-in-Accepted.field-0 (sym c.in-Accepted.is ∙ c.in_ok-check_with.ensures) c.args.accepted.now.items _ c.in_ok-push-in-Accepted.ensures.items
    c.in_ok-copy-in-Accepted.ensures

pub returns-in-Dropped-clause-kept : goal.returns-in-Dropped-clause-kept
returns-in-Dropped-clause-kept c =
    nothing_kept c.args.table.now.normal.now c.args.candidate.now Dropped (sym c.in-Dropped.is ∙ c.in_ok-check_with.ensures) refl c.args.accepted.now.items

pub returns-in-Unbalanced-clause-kept : goal.returns-in-Unbalanced-clause-kept
returns-in-Unbalanced-clause-kept c =
    whatever c.repairs.result
    (nothing_kept c.args.table.now.normal.now c.args.candidate.now (Unbalanced c.in-Unbalanced.place) (sym c.in-Unbalanced.is ∙ c.in_ok-check_with.ensures) refl c.args.accepted.now.items)
