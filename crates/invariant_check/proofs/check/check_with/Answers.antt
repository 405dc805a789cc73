use Rattle.std.proofs.Common.{◌≡◌, Bool, Option, Some, None, sym, ap, ◌∙◌, if◌then◌else◌}
use Rattle.std.specs.List.{list_all}
use Rattle.std.proofs.lemmas.Result.{IfOk-weaker}
use Rattle.normal_task.specs.declared.task.Normal.{Normal}
use Rattle.contradictions.specs.declared.types.Candidate.{Candidate}
use Rattle.invariant_check.specs.declared.types.AddPlace.{AddPlace}
use Rattle.invariant_check.specs.declared.types.Verdict.{Verdict}
use Rattle.invariant_check.specs.declared.types.Verdict.TheVariants.{Dropped}
use Rattle.invariant_check.specs.Repairs.{first_unbalanced, verdict_by, verdict}
use Rattle.invariant_check.specs.Touched.{is_light_at, first_among}
use Rattle.invariant_check.proofs.TouchedSchemas.{light_of_touching, first_of_touching}
use Rattle.invariant_check.proofs.check.check_with.Goals as goal

by_light : Normal → Candidate → Bool → Verdict
by_light task candidate light = if light then verdict_by task candidate (first_unbalanced task candidate 0 task.schemas) else Dropped

pub returns-then-not-branch : goal.returns-then-not-branch
unfolding by_light
returns-then-not-branch c =
    let task = c.args.table.now.normal.now in
    let candidate = c.args.candidate.now in
    let light = c.in_ok-is_light.ensures ∙ ap (list_all (is_light_at task candidate)) (c.as_slice.ensures.value ∙ c.in_ok-numbers.ensures) ∙ light_of_touching task candidate in
    sym (ap (by_light task candidate) (sym light ∙ c.if-not-branch.true))

pub returns-in-Some : goal.returns-in-Some
unfolding by_light
returns-in-Some c =
    let task = c.args.table.now.normal.now in
    let candidate = c.args.candidate.now in
    let light = c.in_ok-is_light.ensures ∙ ap (list_all (is_light_at task candidate)) (c.as_slice.ensures.value ∙ c.in_ok-numbers.ensures) ∙ light_of_touching task candidate in
    let first = c.in_ok-first.ensures ∙ ap (first_among task candidate) (c.as_slice-2.ensures.value ∙ c.in_ok-numbers.ensures) ∙ first_of_touching task candidate in
    IfOk-weaker c.unbalanced.result _ (λ said. said ≡ verdict task candidate)
    (λ said is. is ∙ ap (verdict_by task candidate) (sym c.in-Some.is ∙ first) ∙ sym (ap (by_light task candidate) (sym light ∙ c.if-not-branch.false))) c.unbalanced.ensures

pub returns : goal.returns
unfolding by_light
returns c =
    let task = c.args.table.now.normal.now in
    let candidate = c.args.candidate.now in
    let light = c.in_ok-is_light.ensures ∙ ap (list_all (is_light_at task candidate)) (c.as_slice.ensures.value ∙ c.in_ok-numbers.ensures) ∙ light_of_touching task candidate in
    let first = c.in_ok-first.ensures ∙ ap (first_among task candidate) (c.as_slice-2.ensures.value ∙ c.in_ok-numbers.ensures) ∙ first_of_touching task candidate in
    ap (verdict_by task candidate) (sym c.in-None.is ∙ first) ∙ sym (ap (by_light task candidate) (sym light ∙ c.if-not-branch.false))
