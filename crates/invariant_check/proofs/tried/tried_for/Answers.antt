use Rattle.std.proofs.Common.{◌≡◌, ◌∙◌, ap, sym, subst}
use Rattle.std.specs.Prelude.{IfOk}
use Rattle.std.specs.List.{position}
use Rattle.contradictions.specs.Contradictory.{is_same_place}
use Rattle.contradictions.specs.Merges.{all_ranges}
use Rattle.invariant_check.proofs.TriedSteps.{tried_at, tried_nowhere}
use Rattle.invariant_check.proofs.tried.tried_for.Goals as goal

pub returns-in-Some : goal.returns-in-Some
returns-in-Some c =
    subst (λ pool. IfOk c.all_stated.result (λ all. all.items ≡ pool))
    (sym (tried_at c.args.normal.now (all_ranges c.args.ranges.now) c.args.required.now c.args.delete.now.predicate c.args.delete.now.places c.args.variable.now c.args.range.now c.in-Some.index (ap (position (is_same_place c.args.variable.now)) (sym c.as_slice.ensures) ∙ sym c.in-Some.ensures)))
    c.all_stated.ensures

pub returns-in-None : goal.returns-in-None
returns-in-None c =
    subst (λ pool. IfOk c.all_standing.result (λ all. all.items ≡ pool))
    (sym (tried_nowhere c.args.normal.now (all_ranges c.args.ranges.now) c.args.required.now c.args.delete.now.predicate c.args.delete.now.places c.args.variable.now c.args.range.now (ap (position (is_same_place c.args.variable.now)) (sym c.as_slice.ensures) ∙ sym c.in-None.ensures)))
    c.all_standing.ensures
