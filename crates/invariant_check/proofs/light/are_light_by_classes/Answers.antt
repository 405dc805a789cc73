use Rattle.std.proofs.Common.{◌≡◌, ◌∷◌, [], ◌++◌, ◌∙◌, ap, map, sym, length}
use Rattle.std.specs.Prelude.{not, ◌||◌, zip}
use Rattle.std.proofs.lemmas.Bool.{eq-eqb}
use Rattle.normal_task.specs.declared.task.Place.TheVariants.{Object}
use Rattle.normal_task.specs.Parts.{moved, moved_place}
use Rattle.contradictions.specs.Candidates.{at_positions}
use Rattle.contradictions.specs.Merges.{all_ranges, as_pair}
use Rattle.contradictions.specs.Renamings.{denied_atom, renamed_literals, renamed_places}
use Rattle.contradictions.proofs.Cases.{answers_too, equated_is}
use Rattle.invariant_check.specs.Accepted.{denied, instance_of, is_light_beside, part_passes}
use Rattle.invariant_check.specs.Attempts.{are_one_or_apart}
use Rattle.invariant_check.proofs.AddCases.{two_adds}
use Rattle.invariant_check.proofs.light.are_light_by_classes.Goals as goal

pub returns : goal.returns
returns c =
    let candidate = c.args.candidate.now in
    let schema = c.args.schema.now in
    let part = c.args.one.now.part.now in
    let e = c.args.one.now.row.now in
    let other = c.args.other.now.part.now in
    let f = c.args.other.now.row.now in
    let beside = c.in_ok-beside.beside in
    let places = c.as_slice-11.result.now in
    let condition : beside.condition.items ≡ map (moved (length schema.parameters) (length e.variables)) f.condition = c.in_ok-beside.ensures.condition ∙ ap (λ r. renamed_literals r f.condition) c.apart.ensures in
    let of_f : places ≡ map (moved_place (length schema.parameters) (length e.variables)) f.places = c.as_slice-11.ensures ∙ c.in_ok-beside.ensures.places ∙ ap (λ r. renamed_places r f.places) c.apart.ensures in
    let literals : c.as_slice-7.result.now ≡ schema.condition ++ (e.condition ++ (beside.condition.items ++ denied e ∷ denied_atom f.predicate places ∷ [])) =
    c.as_slice-7.ensures.value ∙ c.in_ok-literals.ensures ∙ ap (λ ps. schema.condition ++ (e.condition ++ (beside.condition.items ++ denied e ∷ denied_atom f.predicate ps ∷ []))) (sym c.as_slice-11.ensures) in
    let instance : c.as_slice-9.result.now ≡ instance_of part e =
    c.as_slice-9.ensures.value ∙ c.in_ok-instance.ensures ∙ ap (λ positions. at_positions (Object 0) positions c.as_slice-2.result.now) c.as_slice.ensures ∙ ap (at_positions (Object 0) part.places) c.as_slice-2.ensures in
    let second : c.in_ok-second.second.items ≡ at_positions (Object 0) other.places places =
    c.in_ok-second.ensures ∙ ap (λ positions. at_positions (Object 0) positions c.as_slice-4.result.now) c.as_slice-3.ensures ∙ ap (at_positions (Object 0) other.places) (c.as_slice-4.ensures ∙ sym c.as_slice-11.ensures) in
    let pairs : map as_pair c.as_slice-8.result.now ≡ zip c.as_slice-9.result.now c.in_ok-second.second.items =
    equated_is c.as_slice-8.result.now c.as_slice-5.result.now c.as_slice-6.result.now (c.as_slice-8.ensures.value ∙ c.in_ok-equated.ensures)
    ∙ ap (λ firsts. zip firsts c.as_slice-6.result.now) (c.as_slice-5.ensures.value ∙ sym c.as_slice-9.ensures.value) ∙ ap (zip c.as_slice-9.result.now) c.as_slice-6.ensures.value in
    answers_too c.are_one_or_apart.result
    (are_one_or_apart candidate (all_ranges c.ranges_of.result) c.as_slice-7.result.now (map as_pair c.as_slice-8.result.now) c.as_slice-9.result.now e.predicate c.as_slice-10.result.now f.predicate places)
    (part_passes (is_light_beside candidate schema part e) f other)
    (ap (λ firsts. are_one_or_apart candidate (all_ranges c.ranges_of.result) c.as_slice-7.result.now (map as_pair c.as_slice-8.result.now) c.as_slice-9.result.now e.predicate firsts f.predicate places) c.as_slice-10.ensures
    ∙ two_adds candidate schema part e other f (all_ranges c.ranges_of.result) c.as_slice-7.result.now beside.condition.items (map as_pair c.as_slice-8.result.now) c.as_slice-9.result.now c.in_ok-second.second.items places
    c.ranges_of.ensures condition of_f literals instance second pairs
    ∙ ap (λ b. not b || is_light_beside candidate schema part e other f) (sym (eq-eqb other.predicate f.predicate c.if-other.false)))
    c.are_one_or_apart.ensures
