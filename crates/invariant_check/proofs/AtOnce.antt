-- Two add effects are light beside each other where they add one atom, or where they name two instances.
use Rattle.std.proofs.Common.{◌≡◌, ℕ, ◌+◌, Bool, true, false, not, ◌&&◌, ◌||◌, List, [], ◌∷◌, ◌++◌, map, length, refl, sym, ap, ◌∙◌, subst, inl, inr, cond}
use Rattle.std.specs.Prelude.{nat_eq, nat_lt, zip}
use Rattle.std.specs.Cmp.Lexicographic.{pointwise}
use Rattle.std.specs.List.{flat_map, list_all, list_any}
use Rattle.std.proofs.lemmas.Bool.{true≢false, and_parts, and_from, or_cases, or_left, or_right}
use Rattle.lists.proofs.Items.{Among, contains_among, each_passes, any_passes, passing, among_left, among_right, among_flat_map}
use Rattle.normal_task.specs.declared.task.EffectRow.{EffectRow}
use Rattle.normal_task.specs.declared.task.Literal.{Literal}
use Rattle.normal_task.specs.declared.task.Place.{Place}
use Rattle.normal_task.specs.declared.task.Place.TheVariants.{Variable, Object}
use Rattle.normal_task.specs.declared.task.Schema.{Schema}
use Rattle.normal_task.specs.Parts.{moved_place}
use Rattle.contradictions.specs.declared.types.Candidate.{Candidate}
use Rattle.contradictions.specs.declared.types.Part.{Part}
use Rattle.contradictions.specs.Candidates.{at_positions}
use Rattle.contradictions.specs.Contradictory.{is_same_place, are_two_objects, in_one_class, equality_of, all_pairs, are_same_terms, terms_of, sides, standing, is_denied_by, parts_a_class, are_two_of_instance, has_no_object, is_contradictory}
use Rattle.contradictions.proofs.Closure.{sameness, has_pairs}
use Rattle.contradictions.proofs.SamePlaces.{same_place, at_positions-map}
use Rattle.invariant_check.specs.Accepted.{part_passes, instance_of, apart_from, ranges_with, both_added, is_light_beside}
use Rattle.invariant_check.specs.Attempts.{is_kept, are_kept, add_one_atom, name_two}

-- ---- one atom

kept_place : (parameters by' : ℕ) (x y : Place) → (is_same_place x y && is_kept parameters y) ≡ true → moved_place parameters by' y ≡ x
kept_place parameters by' x (Variable number) is =
    let parts = and_parts (is_same_place x (Variable number)) (nat_lt number parameters) is in
    ap (λ b. Variable (cond b number (number + by'))) parts.1 ∙ sym (same_place x (Variable number) parts.0)
kept_place parameters by' x (Object object) is = sym (same_place x (Object object) (and_parts (is_same_place x (Object object)) true is).0)

kept_places : (parameters by' : ℕ) (xs ys : List Place) → are_kept parameters xs ys ≡ true → map (moved_place parameters by') ys ≡ xs
kept_places parameters by' [] [] is = refl
kept_places parameters by' [] (y ∷ ys) is = absurd (true≢false (sym is))
kept_places parameters by' (x ∷ xs) [] is = absurd (true≢false (sym is))
kept_places parameters by' (x ∷ xs) (y ∷ ys) is =
    let parts = and_parts (is_same_place x y && is_kept parameters y) (are_kept parameters xs ys) is in
    let here = kept_place parameters by' x y parts.0 in
    let rest = kept_places parameters by' xs ys parts.1 in
    cc (here, rest)

same_terms : (pairs : List (Place × Place)) (xs : List Place) → are_same_terms (in_one_class pairs) xs xs ≡ true
same_terms pairs [] = refl
same_terms pairs (x ∷ xs) = and_from (in_one_class pairs x x) (are_same_terms (in_one_class pairs) xs xs) ((sameness pairs).itself x) (same_terms pairs xs)

module _ (candidate : Candidate) (schema : Schema) (part : Part) (e : EffectRow) where
  pub one_atom : (f : EffectRow) → add_one_atom schema e f ≡ true → list_all (part_passes (is_light_beside candidate schema part e) f) candidate.parts ≡ true
  one_atom f is = each_passes (part_passes (is_light_beside candidate schema part e) f) candidate.parts (λ other there. or_right (not (nat_eq other.predicate f.predicate)) (is_light_beside candidate schema part e other f) (light other))
    where
      parts : (nat_eq e.predicate f.predicate ≡ true) × (are_kept (length schema.parameters) e.places f.places ≡ true)
      parts = and_parts (nat_eq e.predicate f.predicate) (are_kept (length schema.parameters) e.places f.places) is

      light : (other : Part) → is_light_beside candidate schema part e other f ≡ true
      light other =
          let g = apart_from schema e f in
          let literals = both_added schema e g in
          let pairs = zip (instance_of part e) (instance_of other g) in
          let all = all_pairs literals pairs in
          or_left (nat_eq e.predicate f.predicate && are_same_terms (in_one_class all) e.places g.places) (is_contradictory candidate (ranges_with schema e g) literals pairs (instance_of part e))
          (and_from (nat_eq e.predicate f.predicate) (are_same_terms (in_one_class all) e.places g.places) parts.0
          (ap (are_same_terms (in_one_class all) e.places) (kept_places (length schema.parameters) (length e.variables) e.places f.places parts.1) ∙ same_terms all e.places))

-- ---- two instances

-- equated terms of which two are different objects
two_equated : (candidate : Candidate) (ranges : List (List ℕ)) (literals : List Literal) (pairs : List (Place × Place)) (instance : List Place) →
    list_any (λ pair. are_two_objects pair.0 pair.1) pairs ≡ true → is_contradictory candidate ranges literals pairs instance ≡ true
two_equated candidate ranges literals pairs instance some =
    let found = passing (λ (pair : Place × Place). are_two_objects pair.0 pair.1) pairs some in
    let x = found.item.0 in
    let y = found.item.1 in
    let terms = standing literals pairs instance in
    let same = in_one_class (all_pairs literals pairs) in
    let inside = λ (term : Place) (side : Among term (sides found.item)).
    among_right term (flat_map terms_of literals) (flat_map sides pairs ++ instance) (among_left term (flat_map sides pairs) instance (among_flat_map sides found.item term pairs found.among side)) in
    let one = has_pairs (all_pairs literals pairs) found.item (among_left found.item pairs (flat_map equality_of literals) found.among) in
    let objects = any_passes (λ x. list_any (λ y. are_two_objects x y && same x y) terms) x terms (inside x (inl refl))
    (any_passes (λ y. are_two_objects x y && same x y) y terms (inside y (inr (inl refl))) (and_from (are_two_objects x y) (same x y) found.passes one)) in
    let denied = list_any (λ literal. list_any (is_denied_by same literal) literals) literals in
    let two = list_any (λ x. list_any (λ y. are_two_objects x y && same x y) terms) terms in
    let parted = list_any (parts_a_class same) literals in
    let atoms = list_any (λ literal. list_any (are_two_of_instance same candidate instance literal) literals) literals in
    or_left (denied || two || parted || atoms) (list_any (has_no_object same ranges terms) terms)
    (or_left (denied || two || parted) atoms (or_left (denied || two) parted (or_right denied two objects)))

still_two : (parameters by' : ℕ) (xs ys : List Place) → name_two xs ys ≡ true → name_two xs (map (moved_place parameters by') ys) ≡ true
still_two parameters by' [] ys is = absurd (true≢false (sym is))
still_two parameters by' (x ∷ xs) [] is = absurd (true≢false (sym is))
still_two parameters by' (x ∷ xs) (y ∷ ys) is =
    elim (or_cases (are_two_objects x y) (name_two xs ys) is) [
      | inl here ↦ or_left (are_two_objects x (moved_place parameters by' y)) (name_two xs (map (moved_place parameters by') ys)) (object x y here)
      | inr later ↦ or_right (are_two_objects x (moved_place parameters by' y)) (name_two xs (map (moved_place parameters by') ys)) (still_two parameters by' xs ys later)
    ]
  where
    object : (x y : Place) → are_two_objects x y ≡ true → are_two_objects x (moved_place parameters by' y) ≡ true
    object (Variable number) y is = absurd (true≢false (sym is))
    object (Object one) (Variable number) is = absurd (true≢false (sym is))
    object (Object one) (Object other) is = is

pub two_instances : (candidate : Candidate) (schema : Schema) (part : Part) (e : EffectRow) (other : Part) (f : EffectRow) → name_two (instance_of part e) (instance_of other f) ≡ true →
    part_passes (is_light_beside candidate schema part e) f other ≡ true
two_instances candidate schema part e other f is =
    let g = apart_from schema e f in
    let literals = both_added schema e g in
    let pairs = zip (instance_of part e) (instance_of other g) in
    let moved = moved_place (length schema.parameters) (length e.variables) in
    or_right (not (nat_eq other.predicate f.predicate)) (is_light_beside candidate schema part e other f)
    (or_right (nat_eq e.predicate f.predicate && are_same_terms (in_one_class (all_pairs literals pairs)) e.places g.places) (is_contradictory candidate (ranges_with schema e g) literals pairs (instance_of part e))
    (two_equated candidate (ranges_with schema e g) literals pairs (instance_of part e)
    (ap (name_two (instance_of part e)) (sym (at_positions-map moved (Object 0) other.places f.places)) ∙ still_two (length schema.parameters) (length e.variables) (instance_of part e) (instance_of other f) is)))
