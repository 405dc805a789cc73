-- Terms that stand once each are contradictory exactly where they are so with each occurrence.
use Rattle.std.proofs.Common.{◌≡◌, ℕ, ◌+◌, ◌<◌, Bool, true, false, not, ◌&&◌, List, [], ◌∷◌, ◌++◌, take, length, get_or, inl, inr, refl, sym, ◌∙◌, subst}
use Rattle.std.specs.Prelude.{if◌then◌else◌}
use Rattle.std.specs.List.{Contains, list_any}
use Rattle.std.proofs.lemmas.List.{take_more}
use Rattle.std.proofs.lemmas.List.Elements.{Contains-append_left, Contains-append_right, Contains-append_cases}
use Rattle.lists.specs.SameMembers.{SameMembers}
use Rattle.lists.proofs.Items.{same_any, same_all, same_items_any, among_contains, contains_among}
use Rattle.lists.proofs.Members.{any_member, member_single}
use Rattle.normal_task.specs.declared.task.Literal.{Literal}
use Rattle.normal_task.specs.declared.task.Place.{Place}
use Rattle.contradictions.specs.declared.types.Candidate.{Candidate}
use Rattle.contradictions.specs.Contradictory.{is_same_place, are_two_objects, objects_of, is_among, is_lacked, has_no_object, has_contradiction}
use Rattle.contradictions.proofs.SamePlaces.{same_place}

-- ---- one turn of the loop over the terms

pub next_new : (terms : List Place) (place : ℕ) (other : Place) → place < length terms → (once new : List Place) → SameMembers once (take place terms) →
    new ≡ (if list_any (is_same_place (get_or terms place other)) once then once else once ++ get_or terms place other ∷ []) → SameMembers new (take (place + 1) terms)
next_new terms place other within once new held made =
    subst (SameMembers new) (sym (take_more terms place other within)) (by (list_any (is_same_place term) once) refl made)
  where
    term : Place
    term = get_or terms place other

    longer : (xs ys : List Place) (x : Place) → (Contains xs x → Contains ys x) → Contains (xs ++ term ∷ []) x → Contains (ys ++ term ∷ []) x
    longer xs ys x kept there =
        elim (Contains-append_cases xs (term ∷ []) x there) [
          | inl before ↦ Contains-append_left ys (term ∷ []) x (kept before)
          | inr last ↦ Contains-append_right ys (term ∷ []) x last
        ]

    by : (stands : Bool) → list_any (is_same_place term) once ≡ stands → new ≡ (if stands then once else once ++ term ∷ []) → SameMembers new (take place terms ++ term ∷ [])
    by true stands same =
        let found = any_member (is_same_place term) once stands in
        let there : Contains once term = subst (Contains once) (sym (same_place term found.0 found.2)) found.1 in
        subst (λ items. SameMembers items (take place terms ++ term ∷ [])) (sym same)
        (λ x. (
          λ in'. Contains-append_left (take place terms) (term ∷ []) x ((held x).0 in'),
          λ in'. elim (Contains-append_cases (take place terms) (term ∷ []) x in') [
            | inl before ↦ (held x).1 before
            | inr last ↦ subst (Contains once) (member_single term x last) there
          ],
        ))
    by false stands more =
        subst (λ items. SameMembers items (take place terms ++ term ∷ [])) (sym more) (λ x. (longer once (take place terms) x (held x).0, longer (take place terms) once x (held x).1))

-- ---- what is asked of all terms

module _ (terms terms' : List Place) (alike : SameMembers terms terms') where
  any-alike : (test : Place → Bool) → list_any test terms ≡ list_any test terms'
  any-alike test =
      same_items_any test terms terms' (λ x in'. among_contains terms' x ((alike x).0 (contains_among terms x in'))) (λ x in'. among_contains terms x ((alike x).1 (contains_among terms' x in')))

  -- a test of one term beside all others
  any-beside : (test : List Place → Place → Bool) → ((x : Place) → test terms x ≡ test terms' x) → list_any (test terms) terms ≡ list_any (test terms') terms'
  any-beside test each = same_any (test terms) (test terms') terms (λ x in'. each x) ∙ any-alike (test terms')

  pub same_contradiction : (same : Place → Place → Bool) (candidate : Candidate) (ranges : List (List ℕ)) (literals : List Literal) (instance : List Place) →
      has_contradiction same candidate ranges literals terms instance ≡ has_contradiction same candidate ranges literals terms' instance
  same_contradiction same candidate ranges literals instance =
      let two = any-beside (λ terms x. list_any (λ y. are_two_objects x y && same x y) terms) (λ x. any-alike (λ y. are_two_objects x y && same x y)) in
      let none =
      any-beside (has_no_object same ranges)
      (λ x. same_all (is_lacked same ranges terms x) (is_lacked same ranges terms' x) (objects_of ranges x)
      (λ object in'. any-alike (λ other. same x other && not (is_among (objects_of ranges other) object)))) in
      cc (two, none)
