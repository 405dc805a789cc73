use Rattle.std.proofs.Common.{◌≡◌, ◌∷◌, [], ◌++◌, ◌∙◌, ap, map, refl}
use Rattle.std.specs.Prelude.{zip}
use Rattle.contradictions.specs.Contradictory.{is_contradictory}
use Rattle.contradictions.specs.Merges.{all_ranges, as_pair}
use Rattle.contradictions.specs.Renamings.{renamed_literals, renamed_places}
use Rattle.contradictions.proofs.Cases.{answers_too, equated_is, same_case}
use Rattle.invariant_check.specs.Accepted.{apart_from, denied, ranges_with}
use Rattle.invariant_check.proofs.balanced.is_never_added.Goals as goal

pub returns : goal.returns
returns c =
    let candidate = c.args.candidate.now in
    let add = c.args.add.now in
    let schema = add.schema.now in
    let e = add.row.now in
    let row = apart_from schema e c.args.row.now in
    let condition : c.in_ok-beside.beside.condition.items ≡ row.condition = c.in_ok-beside.ensures.condition ∙ ap (λ r. renamed_literals r c.args.row.now.condition) c.apart.ensures in
    let places : c.in_ok-beside.beside.places ≡ row.places = c.in_ok-beside.ensures.places ∙ ap (λ r. renamed_places r c.args.row.now.places) c.apart.ensures in
    let literals : c.as_slice-3.result.now ≡ add.required.now ++ (row.condition ++ denied e ∷ []) =
    c.as_slice-3.ensures.value ∙ c.in_ok-literals.ensures ∙ ap (λ l. add.required.now ++ (l ++ denied e ∷ [])) (c.as_slice.ensures.value ∙ condition) in
    let pairs : map as_pair c.as_slice-4.result.now ≡ zip row.places c.args.places.now =
    equated_is c.as_slice-4.result.now c.as_slice-2.result.now c.args.places.now (c.as_slice-4.ensures.value ∙ c.in_ok-equated.ensures) ∙ ap (λ ps. zip ps c.args.places.now) (c.as_slice-2.ensures ∙ places) in
    answers_too c.is_contradictory.result (is_contradictory candidate (all_ranges c.ranges_of.result) c.as_slice-3.result.now (map as_pair c.as_slice-4.result.now) add.instance.now)
    (is_contradictory candidate (ranges_with schema e c.args.row.now) (add.required.now ++ (row.condition ++ denied e ∷ [])) (zip row.places c.args.places.now) add.instance.now)
    (same_case candidate (all_ranges c.ranges_of.result) (ranges_with schema e c.args.row.now) c.as_slice-3.result.now (add.required.now ++ (row.condition ++ denied e ∷ [])) (map as_pair c.as_slice-4.result.now) (zip row.places c.args.places.now) add.instance.now add.instance.now
    c.ranges_of.ensures literals pairs refl)
    c.is_contradictory.ensures
