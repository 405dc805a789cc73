use Rattle.std.proofs.Common.{◌≡◌, ◌∷◌, [], ◌++◌, ◌∙◌, ap, refl}
use Rattle.normal_task.specs.declared.task.Place.TheVariants.{Object}
use Rattle.contradictions.specs.Candidates.{at_positions}
use Rattle.contradictions.specs.Contradictory.{is_contradictory}
use Rattle.contradictions.specs.Merges.{all_ranges}
use Rattle.contradictions.specs.Renamings.{denied_atom}
use Rattle.contradictions.proofs.Cases.{answers_too, same_case}
use Rattle.invariant_check.specs.Accepted.{denied, instance_of, required}
use Rattle.invariant_check.proofs.balanced.is_never_new.Goals as goal

pub returns : goal.returns
returns c =
    let candidate = c.args.candidate.now in
    let schema = c.args.schema.now in
    let row = c.args.row.now in
    let literals : c.as_slice-4.result.now ≡ required schema row ++ denied row ∷ [] =
    c.as_slice-4.ensures.value ∙ c.in_ok-push_denied.ensures ∙ ap (λ l. l ++ denied_atom row.predicate c.as_slice.result.now ∷ []) c.in_ok-literals.ensures
    ∙ ap (λ places. required schema row ++ denied_atom row.predicate places ∷ []) c.as_slice.ensures in
    let instance : c.as_slice-5.result.now ≡ instance_of c.args.part.now row =
    c.as_slice-5.ensures.value ∙ c.in_ok-instance.ensures ∙ ap (λ positions. at_positions (Object 0) positions c.as_slice-3.result.now) c.as_slice-2.ensures
    ∙ ap (at_positions (Object 0) c.args.part.now.places) c.as_slice-3.ensures in
    answers_too c.is_contradictory.result (is_contradictory candidate (all_ranges c.ranges_of_one.result) c.as_slice-4.result.now [] c.as_slice-5.result.now)
    (is_contradictory candidate (schema.parameters ++ row.variables) (required schema row ++ denied row ∷ []) [] (instance_of c.args.part.now row))
    (same_case candidate (all_ranges c.ranges_of_one.result) (schema.parameters ++ row.variables) c.as_slice-4.result.now (required schema row ++ denied row ∷ []) [] [] c.as_slice-5.result.now (instance_of c.args.part.now row)
    c.ranges_of_one.ensures.ranges literals refl instance)
    c.is_contradictory.ensures
