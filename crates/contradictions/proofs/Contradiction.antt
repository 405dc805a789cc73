-- No objects make a contradictory list true where the instance has weight at most one.
use Rattle.std.proofs.Common.{◌≡◌, ℕ, Bool, true, false, not, ◌&&◌, List, [], ◌∷◌, inl, inr, refl, sym, ap, ◌∙◌, subst}
use Rattle.std.specs.Prelude.{nat_eq}
use Rattle.std.specs.List.{list_any, flat_map}
use Rattle.std.proofs.lemmas.Bool.{both_ways, true≢false, eqb-true, eq-eqb, and_parts, or_cases, not-true}
use Rattle.lists.proofs.Items.{Among, all_passes, passing, flat_map_piece, among_which, among_contains, told_contains}
use Rattle.normal_task.specs.declared.task.GroundAtom.{GroundAtom}
use Rattle.normal_task.specs.declared.task.Literal.{Literal}
use Rattle.normal_task.specs.declared.task.Literal.TheVariants.{Holds, Equal}
use Rattle.normal_task.specs.declared.task.Place.{Place}
use Rattle.normal_task.specs.declared.task.Place.TheVariants.{Variable, Object}
use Rattle.normal_task.specs.Meaning.{atom_of, State, Binding, object_at, objects_at, is_met, are_met}
use Rattle.contradictions.specs.declared.types.Candidate.{Candidate}
use Rattle.contradictions.specs.declared.types.Part.{Part}
use Rattle.contradictions.specs.Candidates.{at_positions, covers, IsAtMostOne}
use Rattle.contradictions.specs.Contradictory as spec
use Rattle.contradictions.specs.Contradictory.{in_one_class, equality_of, objects_of, are_two_objects, all_pairs, standing, has_contradiction, is_contradictory, is_among}
use Rattle.contradictions.proofs.Closure.{least}
use Rattle.contradictions.proofs.Covering as covering
use Rattle.contradictions.proofs.SamePlaces.{at_positions-map}

module _ (literals : List Literal) (full : State) (binding : Binding) (met : are_met full binding literals ≡ true) where
  literal_met : (literal : Literal) → Among literal literals → is_met full binding literal ≡ true
  literal_met literal there = all_passes (is_met full binding) literal literals there met

  stated : (literal : Literal) → is_met full binding literal ≡ true → (pair : Place × Place) → Among pair (equality_of literal) → object_at binding pair.0 ≡ object_at binding pair.1
  stated (Holds positive predicate places) is pair none = absurd none
  stated (Equal false left right) is pair none = absurd none
  stated (Equal true left right) is pair (inr none) = absurd none
  stated (Equal true left right) is pair (inl here) =
      sym (ap (λ (p : Place × Place). object_at binding p.0) here) ∙ eqb-true (object_at binding left) (object_at binding right) is ∙ ap (λ (p : Place × Place). object_at binding p.1) here

  module _ (equated : List (Place × Place)) (equal : (pair : Place × Place) → Among pair equated → object_at binding pair.0 ≡ object_at binding pair.1) where
    all_equal : (pair : Place × Place) → Among pair (all_pairs literals equated) → object_at binding pair.0 ≡ object_at binding pair.1
    all_equal pair there =
        elim (among_which pair equated (flat_map equality_of literals) there) [
          | inl given ↦ equal pair given
          | inr of_literal ↦
              let piece = flat_map_piece equality_of literals pair of_literal in
              stated piece.source (literal_met piece.source piece.among) pair piece.inside
        ]

    -- terms of one class have one object
    pub one_object : (x y : Place) → in_one_class (all_pairs literals equated) x y ≡ true → object_at binding x ≡ object_at binding y
    one_object =
        least (all_pairs literals equated) (λ x y. object_at binding x ≡ object_at binding y)
        (record { itself = λ x. refl; turned = λ x y is. sym is; through = λ x y z one other. one ∙ other }) all_equal

  module _ (same : Place → Place → Bool) (same_values : (x y : Place) → same x y ≡ true → object_at binding x ≡ object_at binding y) where
    pub same_objects : (xs ys : List Place) → spec.are_same_terms same xs ys ≡ true → objects_at binding xs ≡ objects_at binding ys
    same_objects [] [] is = refl
    same_objects [] (y ∷ ys) is = absurd (true≢false (sym is))
    same_objects (x ∷ xs) [] is = absurd (true≢false (sym is))
    same_objects (x ∷ xs) (y ∷ ys) is =
        let parts = and_parts (same x y) (spec.are_same_terms same xs ys) is in
        let here = same_values x y parts.0 in
        let rest = same_objects xs ys parts.1 in
        cc (here, rest)

    module _ (candidate : Candidate) (ranges : List (List ℕ)) (terms instance : List Place) (typed : (term : Place) → is_among (objects_of ranges term) (object_at binding term) ≡ true) (most : IsAtMostOne full candidate (objects_at binding instance)) where
      denied : (one other : Literal) → Among one literals → Among other literals → spec.is_denied_by same one other ≡ true → ⊥
      denied (Holds false p xs) (Holds b q ys) in-one in-other is = true≢false (sym is)
      denied (Holds true p xs) (Holds true q ys) in-one in-other is = true≢false (sym is)
      denied (Holds true p xs) (Holds false q ys) in-one in-other is =
          let parts = and_parts (nat_eq p q) (spec.are_same_terms same xs ys) is in
          let one = literal_met (Holds true p xs) in-one in
          let other = literal_met (Holds false q ys) in-other in
          let agree : full (atom_of p (objects_at binding xs)) ≡ full (atom_of q (objects_at binding ys)) =
          ap (λ (r : ℕ). full (atom_of r (objects_at binding xs))) (eqb-true p q parts.0) ∙ ap (λ (os : List ℕ). full (atom_of q os)) (same_objects xs ys parts.1) in
          both_ways (full (atom_of q (objects_at binding ys))) (not-true (full (atom_of q (objects_at binding ys))) other) (sym agree ∙ one)
      denied (Holds b p xs) (Equal c left right) in-one in-other is = true≢false (sym is)
      denied (Equal b left right) other in-one in-other is = true≢false (sym is)

      two_objects : (x y : Place) → are_two_objects x y ≡ true → object_at binding x ≡ object_at binding y → ⊥
      two_objects (Variable n) y is agree = true≢false (sym is)
      two_objects (Object o) (Variable n) is agree = true≢false (sym is)
      two_objects (Object o) (Object p) is agree = both_ways (nat_eq o p) (not-true (nat_eq o p) is) (eq-eqb o p agree)

      parted : (literal : Literal) → Among literal literals → spec.parts_a_class same literal ≡ true → ⊥
      parted (Holds b p xs) there is = true≢false (sym is)
      parted (Equal true left right) there is = true≢false (sym is)
      parted (Equal false left right) there is =
          both_ways (nat_eq (object_at binding left) (object_at binding right)) (not-true (nat_eq (object_at binding left) (object_at binding right)) (literal_met (Equal false left right) there))
          (eq-eqb (object_at binding left) (object_at binding right) (same_values left right is))

      objectless : (term : Place) → spec.has_no_object same ranges terms term ≡ true → ⊥
      objectless term is =
          let none = all_passes (λ object. list_any (λ other. same term other && not (is_among (objects_of ranges other) object)) terms) (object_at binding term) (objects_of ranges term) (among_contains (objects_of ranges term) (object_at binding term) (told_contains nat_eq (λ x y same. eqb-true x y same) (objects_of ranges term) (object_at binding term) (typed term))) is in
          let found = passing (λ other. same term other && not (is_among (objects_of ranges other) (object_at binding term))) terms none in
          let parts = and_parts (same term found.item) (not (is_among (objects_of ranges found.item) (object_at binding term))) found.passes in
          let there : is_among (objects_of ranges found.item) (object_at binding term) ≡ true =
          subst (λ (n : ℕ). is_among (objects_of ranges found.item) n ≡ true) (sym (same_values term found.item parts.0)) (typed found.item) in
          both_ways (is_among (objects_of ranges found.item) (object_at binding term)) (not-true (is_among (objects_of ranges found.item) (object_at binding term)) parts.1) there

      covered : (predicate : ℕ) (places : List Place) → spec.is_of_instance same candidate instance predicate places ≡ true → covers candidate (objects_at binding instance) (atom_of predicate (objects_at binding places)) ≡ true
      covered predicate places is =
          let found = passing (λ (part : Part). nat_eq part.predicate predicate && spec.are_same_terms same (at_positions (Object 0) part.places places) instance) candidate.parts is in
          let parts = and_parts (nat_eq found.item.predicate predicate) (spec.are_same_terms same (at_positions (Object 0) found.item.places places) instance) found.passes in
          let agree : at_positions 0 found.item.places (objects_at binding places) ≡ objects_at binding instance =
          sym (at_positions-map (object_at binding) (Object 0) found.item.places places) ∙ same_objects (at_positions (Object 0) found.item.places places) instance parts.1 in
          covering.covered candidate (objects_at binding instance) (atom_of predicate (objects_at binding places)) found.item found.among (eqb-true found.item.predicate predicate parts.0) agree

      two : (one other : Literal) → Among one literals → Among other literals → spec.are_two_of_instance same candidate instance one other ≡ true → ⊥
      two (Holds false p xs) (Holds b q ys) in-one in-other is = true≢false (sym is)
      two (Holds true p xs) (Holds false q ys) in-one in-other is = true≢false (sym is)
      two (Holds true p xs) (Holds true q ys) in-one in-other is =
          let outer = and_parts (not (nat_eq p q) && spec.is_of_instance same candidate instance p xs) (spec.is_of_instance same candidate instance q ys) is in
          let inner = and_parts (not (nat_eq p q)) (spec.is_of_instance same candidate instance p xs) outer.0 in
          let agree : atom_of p (objects_at binding xs) ≡ atom_of q (objects_at binding ys) =
          most (atom_of p (objects_at binding xs)) (atom_of q (objects_at binding ys)) (covered p xs inner.1) (covered q ys outer.1) (literal_met (Holds true p xs) in-one) (literal_met (Holds true q ys) in-other) in
          both_ways (nat_eq p q) (not-true (nat_eq p q) inner.0) (eq-eqb p q (ap (λ (a : GroundAtom). a.predicate) agree))
      two (Holds b p xs) (Equal c left right) in-one in-other is = true≢false (sym is)
      two (Equal b left right) other in-one in-other is = true≢false (sym is)

      pub no_contradiction : has_contradiction same candidate ranges literals terms instance ≡ true → ⊥
      no_contradiction is =
          elim (or_cases _ _ is) [
            | inr empty ↦ let found = passing (spec.has_no_object same ranges terms) terms empty in objectless found.item found.passes
            | inl more ↦
                elim (or_cases _ _ more) [
                  | inr last ↦
                      let one = passing (λ literal. list_any (spec.are_two_of_instance same candidate instance literal) literals) literals last in
                      let other = passing (spec.are_two_of_instance same candidate instance one.item) literals one.passes in
                      two one.item other.item one.among other.among other.passes
                  | inl more ↦
                      elim (or_cases _ _ more) [
                        | inr apart ↦ let found = passing (spec.parts_a_class same) literals apart in parted found.item found.among found.passes
                        | inl more ↦
                            elim (or_cases _ _ more) [
                              | inr things ↦
                                  let x = passing (λ x. list_any (λ y. are_two_objects x y && same x y) terms) terms things in
                                  let y = passing (λ y. are_two_objects x.item y && same x.item y) terms x.passes in
                                  let parts = and_parts (are_two_objects x.item y.item) (same x.item y.item) y.passes in
                                  two_objects x.item y.item parts.0 (same_values x.item y.item parts.1)
                              | inl complementary ↦
                                  let one = passing (λ literal. list_any (spec.is_denied_by same literal) literals) literals complementary in
                                  let other = passing (spec.is_denied_by same one.item) literals one.passes in
                                  denied one.item other.item one.among other.among other.passes
                            ]
                      ]
                ]
          ]

-- ---- the two, for the classes of a literal list with equated terms

pub equal_objects : (literals : List Literal) (equated : List (Place × Place)) (full : State) (binding : Binding) → are_met full binding literals ≡ true →
    ((pair : Place × Place) → Among pair equated → object_at binding pair.0 ≡ object_at binding pair.1) →
    (xs ys : List Place) → spec.are_same_terms (in_one_class (all_pairs literals equated)) xs ys ≡ true → objects_at binding xs ≡ objects_at binding ys
equal_objects literals equated full binding met equal xs ys is =
    same_objects literals full binding met (in_one_class (all_pairs literals equated)) (one_object literals full binding met equated equal) xs ys is

pub never_contradictory : (candidate : Candidate) (ranges : List (List ℕ)) (literals : List Literal) (equated : List (Place × Place)) (instance : List Place) (full : State) (binding : Binding) → are_met full binding literals ≡ true →
    ((pair : Place × Place) → Among pair equated → object_at binding pair.0 ≡ object_at binding pair.1) →
    ((term : Place) → is_among (objects_of ranges term) (object_at binding term) ≡ true) → IsAtMostOne full candidate (objects_at binding instance) →
    is_contradictory candidate ranges literals equated instance ≡ true → ⊥
never_contradictory candidate ranges literals equated instance full binding met equal typed most is =
    no_contradiction literals full binding met (in_one_class (all_pairs literals equated)) (one_object literals full binding met equated equal)
    candidate ranges (standing literals equated instance) instance typed most is
