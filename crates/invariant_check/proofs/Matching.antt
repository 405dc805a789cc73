-- Trying the terms that are required, and one other for a variable that stands nowhere, finds a delete effect that balances wherever trying all terms that fit does.
use Rattle.std.proofs.Common.{◌≡◌, ℕ, zero, suc, ◌+◌, ◌-◌, ◌<◌, ◌≤◌, Bool, true, false, not, ◌&&◌, List, [], ◌∷◌, ◌++◌, map, length, get_or, inl, inr, refl, sym, ap, ◌∙◌, subst, arith}
use Rattle.std.specs.Prelude.{nat_eq, nat_lt, Option, Some, None, if◌then◌else◌}
use Rattle.std.specs.Cmp.{both_ways as same_tests}
use Rattle.std.specs.Cmp.Lexicographic.{pointwise}
use Rattle.std.specs.List.{list_any, list_all, flat_map, filter, range_with_len, position}
use Rattle.std.specs.Option.{option_map_or}
use Rattle.std.proofs.Math.Bool.{and-false}
use Rattle.std.proofs.lemmas.Bool.{both_ways, true≢false, eq-eqb, ltb-true, ltb-false, lt-ltb, and_parts, and_from, or_left, not-true}
use Rattle.std.proofs.lemmas.List.Quantifiers.{position-Some}
use Rattle.lists.proofs.Items.{Among, all_passes, any_passes, passing, map_source, among_map, among_left, among_right, among_which, among_flat_map, flat_map_piece, among_filter, filter_among, same_map, same_any}
use Rattle.lists.proofs.NoRepeats.{among_range, range_among}
use Rattle.normal_task.specs.declared.task.EffectRow.{EffectRow}
use Rattle.normal_task.specs.declared.task.Literal.{Literal}
use Rattle.normal_task.specs.declared.task.Literal.TheVariants.{Holds, Equal}
use Rattle.normal_task.specs.declared.task.Normal.{Normal}
use Rattle.normal_task.specs.declared.task.Place.{Place}
use Rattle.normal_task.specs.declared.task.Place.TheVariants.{Variable, Object}
use Rattle.normal_task.specs.declared.task.Schema.{Schema}
use Rattle.normal_task.specs.Meaning.{choices}
use Rattle.contradictions.specs.declared.types.Candidate.{Candidate}
use Rattle.contradictions.specs.declared.types.Part.{Part}
use Rattle.contradictions.specs.Candidates.{at_positions}
use Rattle.contradictions.specs.Contradictory.{is_same_place, terms_of, is_among}
use Rattle.contradictions.specs.GivenTerms.{with_terms, literal_with}
use Rattle.contradictions.proofs.SamePlaces.{get_or_map, same_place, place_itself}
use Rattle.invariant_check.specs.Accepted.{required, instance_of, apart_from, is_same_literal, is_listed, terms, fits, fittings, row_with, never_restores, balances, has_balance}
use Rattle.invariant_check.specs.Attempts.{is_at_instance, stated_at, some_terms, tried_for, tried, is_fitting, are_fitting, balances_given, balances_somehow}
use Rattle.invariant_check.proofs.Bindings.{same_literal}

-- ---- one item of each list

abbrev pub Chosen : {A : Type 0} → List (List A) → List A → Type 0
Chosen [] [] = Unit {0}
Chosen [] (x ∷ xs) = ⊥
Chosen (list ∷ lists) [] = ⊥
Chosen (list ∷ lists) (x ∷ xs) = Among x list × Chosen lists xs

pub choice_chosen : {A : Type 0} (lists : List (List A)) (xs : List A) → Among xs (choices lists) → Chosen lists xs
choice_chosen [] xs (inl none) = subst (λ ys. Chosen [] ys) none tt
choice_chosen [] xs (inr never) = absurd never
choice_chosen {A = A} (list ∷ lists) xs there =
    let found = flat_map_piece (λ item. map (λ others. item ∷ others) (choices lists)) list xs there in
    let rest = map_source (λ (others : List A). found.source ∷ others) (choices lists) xs found.inside in
    subst (λ ys. Chosen (list ∷ lists) ys) rest.gives (found.among, choice_chosen lists rest.source rest.among)

pub chosen_choice : {A : Type 0} (lists : List (List A)) (xs : List A) → Chosen lists xs → Among xs (choices lists)
chosen_choice [] [] chosen = inl refl
chosen_choice [] (x ∷ xs) chosen = absurd chosen
chosen_choice (list ∷ lists) [] chosen = absurd chosen
chosen_choice {A = A} (list ∷ lists) (x ∷ xs) chosen =
    among_flat_map (λ item. map (λ others. item ∷ others) (choices lists)) x (x ∷ xs) list chosen.0
    (among_map (λ (others : List A). x ∷ others) xs (choices lists) (chosen_choice lists xs chosen.1))

-- ---- terms that fit

module _ (task : Normal) (ranges : List (List ℕ)) where
  -- a term that fits is one of those that the definition tries
  fitting-there : (term : Place) (range : List ℕ) → is_fitting task ranges term range ≡ true → Among term (filter (fits ranges range) (terms task ranges))
  fitting-there (Variable number) range is =
      let parts = and_parts (nat_lt number (length ranges)) (fits ranges range (Variable number)) is in
      let least : 0 ≤ number = omega arith in
      let most : number < 0 + length ranges = omega (arith, ltb-true number (length ranges) parts.0) in
      among_filter (fits ranges range) (Variable number) (terms task ranges)
      (among_left (Variable number) (map Variable (range_with_len 0 (length ranges))) (map Object (range_with_len 0 (length task.objects)))
      (among_map Variable number (range_with_len 0 (length ranges)) (range_among 0 (length ranges) number least most)))
      parts.1
  fitting-there (Object object) range is =
      let parts = and_parts (nat_lt object (length task.objects)) (fits ranges range (Object object)) is in
      let least : 0 ≤ object = omega arith in
      let most : object < 0 + length task.objects = omega (arith, ltb-true object (length task.objects) parts.0) in
      among_filter (fits ranges range) (Object object) (terms task ranges)
      (among_right (Object object) (map Variable (range_with_len 0 (length ranges))) (map Object (range_with_len 0 (length task.objects)))
      (among_map Object object (range_with_len 0 (length task.objects)) (range_among 0 (length task.objects) object least most)))
      parts.1

  -- and each of them fits
  there-fitting : (term : Place) (range : List ℕ) → Among term (filter (fits ranges range) (terms task ranges)) → is_fitting task ranges term range ≡ true
  there-fitting term range there =
      let parts = filter_among (fits ranges range) term (terms task ranges) there in
      elim (among_which term (map Variable (range_with_len 0 (length ranges))) (map Object (range_with_len 0 (length task.objects))) parts.0) [
        | inl variable ↦
            let source = map_source Variable (range_with_len 0 (length ranges)) term variable in
            let less : source.source < length ranges = omega (arith, (among_range 0 (length ranges) source.source source.among).1) in
            subst (λ t. is_fitting task ranges t range ≡ true) source.gives
            (and_from (nat_lt source.source (length ranges)) (fits ranges range (Variable source.source)) (lt-ltb source.source (length ranges) less)
            (subst (λ t. fits ranges range t ≡ true) (sym source.gives) parts.1))
        | inr object ↦
            let source = map_source Object (range_with_len 0 (length task.objects)) term object in
            let less : source.source < length task.objects = omega (arith, (among_range 0 (length task.objects) source.source source.among).1) in
            subst (λ t. is_fitting task ranges t range ≡ true) source.gives
            (and_from (nat_lt source.source (length task.objects)) (fits ranges range (Object source.source)) (lt-ltb source.source (length task.objects) less)
            (subst (λ t. fits ranges range t ≡ true) (sym source.gives) parts.1))
      ]

  chosen-fitting : (variables : List (List ℕ)) (given : List Place) → Chosen (map (λ range. filter (fits ranges range) (terms task ranges)) variables) given → are_fitting task ranges given variables ≡ true
  chosen-fitting [] [] chosen = refl
  chosen-fitting [] (term ∷ given) chosen = absurd chosen
  chosen-fitting (range ∷ variables) [] chosen = absurd chosen
  chosen-fitting (range ∷ variables) (term ∷ given) chosen =
      and_from (is_fitting task ranges term range) (are_fitting task ranges given variables) (there-fitting term range chosen.0) (chosen-fitting variables given chosen.1)

  fitting-chosen : (variables : List (List ℕ)) (given : List Place) → are_fitting task ranges given variables ≡ true → Chosen (map (λ range. filter (fits ranges range) (terms task ranges)) variables) given
  fitting-chosen [] [] fit = tt
  fitting-chosen [] (term ∷ given) fit = absurd (true≢false (sym fit))
  fitting-chosen (range ∷ variables) [] fit = absurd (true≢false (sym fit))
  fitting-chosen (range ∷ variables) (term ∷ given) fit =
      let parts = and_parts (is_fitting task ranges term range) (are_fitting task ranges given variables) fit in
      (fitting-there term range parts.0, fitting-chosen variables given parts.1)

  -- where some term fits, so does one of those that are tried for a variable that stands nowhere
  some-fitting : (term : Place) (range : List ℕ) → is_fitting task ranges term range ≡ true → (other : Place) × Among other (some_terms task ranges range) × (is_fitting task ranges other range ≡ true)
  some-fitting term [] fit = (term, (filter_among (fits ranges []) term (terms task ranges) (fitting-there term [] fit)).0, fit)
  some-fitting term (object ∷ more) fit = by (nat_lt object (length task.objects)) refl
    where
      itself : fits ranges (object ∷ more) (Object object) ≡ true
      itself = and_from (is_among (object ∷ more) object) true (or_left (nat_eq object object) (is_among more object) (eq-eqb object object refl)) refl

      by : (b : Bool) → nat_lt object (length task.objects) ≡ b →
          (other : Place) × Among other (if b then Object object ∷ [] else terms task ranges) × (is_fitting task ranges other (object ∷ more) ≡ true)
      by true is = (Object object, inl refl, and_from (nat_lt object (length task.objects)) (fits ranges (object ∷ more) (Object object)) is itself)
      by false is = (term, (filter_among (fits ranges (object ∷ more)) term (terms task ranges) (fitting-there term (object ∷ more) fit)).0, fit)

-- ---- the terms that are given in literals

module _ (from : ℕ) (given : List Place) where
  put-own : (k : ℕ) → with_terms from given (Variable (from + k)) ≡ get_or given k (Object 0)
  put-own k = by (nat_lt (from + k) from) refl
    where
      by : (b : Bool) → nat_lt (from + k) from ≡ b → (if b then Variable (from + k) else get_or given (from + k - from) (Object 0)) ≡ get_or given k (Object 0)
      by true is = let less = ltb-true (from + k) from is in absurd (omega (arith, less))
      by false is = let back : from + k - from ≡ k = omega arith in ap (λ m. get_or given m (Object 0)) back

  terms-of-put : (literal : Literal) (term : Place) → Among term (terms_of literal) → Among (with_terms from given term) (terms_of (literal_with from given literal))
  terms-of-put (Holds positive predicate places) term there = among_map (with_terms from given) term places there
  terms-of-put (Equal positive left right) term there = among_map (with_terms from given) term (left ∷ right ∷ []) there

listed-there : (literals : List Literal) (literal : Literal) → is_listed literals literal ≡ true → Among literal literals
listed-there literals literal is =
    let found = passing (is_same_literal literal) literals is in
    subst (λ l. Among l literals) (sym (same_literal literal found.item found.passes)) found.among

-- ---- one delete effect

-- the same conjunction in another order
regroup : (a x y z f w : Bool) → a ≡ false → (x && y && z && f && w) ≡ (f && (not a && x && y && z && w))
regroup true x y z f w isnt = absurd (true≢false isnt)
regroup false false y z f w isnt = sym (and-false f)
regroup false true false z f w isnt = sym (and-false f)
regroup false true true false f w isnt = sym (and-false f)
regroup false true true true f w isnt = refl

module _ (task : Normal) (candidate : Candidate) (schema : Schema) (part : Part) (e d : EffectRow) where
  abbrev from : ℕ
  from = length schema.parameters

  abbrev ranges : List (List ℕ)
  ranges = schema.parameters ++ e.variables

  abbrev rest : List Literal
  rest = required schema e

  abbrev tests : List Place → Bool
  tests given = balances candidate schema part e (row_with schema d given)

  abbrev attempts : List Place → Bool
  attempts given = balances_given task candidate schema e rest (instance_of part e) d given

  abbrev Stands : ℕ → Type 0
  Stands number = Among (Variable number) (d.places ++ flat_map terms_of d.condition)

  split : d.adds ≡ false → (given : List Place) → attempts given ≡ (are_fitting task ranges given d.variables && tests given)
  split deletes given =
      regroup d.adds (is_at_instance candidate (instance_of part e) d.predicate (map (with_terms from given) d.places))
      (is_listed rest (Holds true d.predicate (map (with_terms from given) d.places)))
      (list_all (is_listed rest) (map (literal_with from given) d.condition))
      (are_fitting task ranges given d.variables)
      (list_all (λ a. never_restores candidate schema part e (row_with schema d given) (apart_from schema e a)) schema.effects)
      deletes

  -- what a balancing effect says of the terms that it is given
  record Says (given : List Place) : Type 0 where
    deletes : d.adds ≡ false
    at_instance : is_at_instance candidate (instance_of part e) d.predicate (map (with_terms from given) d.places) ≡ true
    stated : is_listed rest (Holds true d.predicate (map (with_terms from given) d.places)) ≡ true
    listed : list_all (is_listed rest) (map (literal_with from given) d.condition) ≡ true

  says : (given : List Place) → tests given ≡ true → Says given
  says given is =
      let a = and_parts _ _ is in
      let b = and_parts _ _ a.0 in
      let c = and_parts _ _ b.0 in
      let s = and_parts (not d.adds) _ c.0 in
      record { deletes = not-true d.adds s.0; at_instance = s.1; stated = c.1; listed = b.1 }

  -- a variable of the deleted atom gets what stands at its index in a literal that is required
  given-in-atom : (given : List Place) → Says given → (k index : ℕ) → position (is_same_place (Variable (from + k))) d.places ≡ Some index → Among (get_or given k (Object 0)) (flat_map (stated_at d.predicate index) rest)
  given-in-atom given s k index at =
      let literal = Holds true d.predicate (map (with_terms from given) d.places) in
      let found = position-Some (is_same_place (Variable (from + k))) d.places index (Object 0) at in
      let stands : get_or (map (with_terms from given) d.places) index (Object 0) ≡ get_or given k (Object 0) =
      sym (get_or_map (with_terms from given) d.places index (Object 0)) ∙ ap (with_terms from given) (sym (same_place (Variable (from + k)) (get_or d.places index (Object 0)) found.1)) ∙ put-own from given k in
      among_flat_map (stated_at d.predicate index) literal (get_or given k (Object 0)) rest (listed-there rest literal s.stated)
      (subst (λ b. Among (get_or given k (Object 0)) (if b then get_or (map (with_terms from given) d.places) index (Object 0) ∷ [] else [])) (sym (eq-eqb d.predicate d.predicate refl)) (inl stands))

  -- and each of the row's variables gets a term that stands there
  given-standing : (given : List Place) → Says given → (k : ℕ) → Stands (from + k) → Among (get_or given k (Object 0)) (flat_map terms_of rest)
  given-standing given s k stands =
      subst (λ t. Among t (flat_map terms_of rest)) (put-own from given k)
      (elim (among_which (Variable (from + k)) d.places (flat_map terms_of d.condition) stands) [
        | inl in-atom ↦
            among_flat_map terms_of (Holds true d.predicate (map (with_terms from given) d.places)) (with_terms from given (Variable (from + k))) rest
            (listed-there rest (Holds true d.predicate (map (with_terms from given) d.places)) s.stated) (among_map (with_terms from given) (Variable (from + k)) d.places in-atom)
        | inr in-condition ↦
            let piece = flat_map_piece terms_of d.condition (Variable (from + k)) in-condition in
            let literal = literal_with from given piece.source in
            among_flat_map terms_of literal (with_terms from given (Variable (from + k))) rest
            (listed-there rest literal (all_passes (is_listed rest) literal (map (literal_with from given) d.condition) (among_map (literal_with from given) piece.source d.condition piece.among) s.listed))
            (terms-of-put from given piece.source (Variable (from + k)) piece.inside)
      ])

  -- ---- other terms, where the variable stands nowhere

  record Picked (number : ℕ) (variables : List (List ℕ)) (given : List Place) : Type 0 where
    others : List Place
    chosen : Chosen (tried task ranges rest d number variables) others
    fitting : are_fitting task ranges others variables ≡ true
    agree : (k : ℕ) → Stands (number + k) → get_or others k (Object 0) ≡ get_or given k (Object 0)

  abbrev pool : List ℕ → Option ℕ → List Place
  pool range at = option_map_or (λ index. flat_map (stated_at d.predicate index) rest) at (flat_map terms_of rest ++ some_terms task ranges range)

  record Pick (number : ℕ) (range : List ℕ) (term : Place) : Type 0 where
    other : Place
    tried_one : Among other (tried_for task ranges rest d.predicate d.places (Variable number) range)
    fits_too : is_fitting task ranges other range ≡ true
    same : Stands number → other ≡ term

  pick : (number : ℕ) (range : List ℕ) (term : Place) → is_fitting task ranges term range ≡ true →
      ((index : ℕ) → position (is_same_place (Variable number)) d.places ≡ Some index → Among term (flat_map (stated_at d.predicate index) rest)) →
      (Stands number → Among term (flat_map terms_of rest)) → Pick number range term
  pick number range term fit in-atom standing = by (position (is_same_place (Variable number)) d.places) refl
    where
      stands-or-not : (b : Bool) → list_any (is_same_place (Variable number)) (d.places ++ flat_map terms_of d.condition) ≡ b → position (is_same_place (Variable number)) d.places ≡ None → Pick number range term
      stands-or-not true is none =
          let found = passing (is_same_place (Variable number)) (d.places ++ flat_map terms_of d.condition) is in
          let stands : Stands number = subst (λ t. Among t (d.places ++ flat_map terms_of d.condition)) (sym (same_place (Variable number) found.item found.passes)) found.among in
          record {
            other = term;
            tried_one = subst (λ at. Among term (pool range at)) (sym none) (among_left term (flat_map terms_of rest) (some_terms task ranges range) (standing stands));
            fits_too = fit;
            same = λ s. refl;
          }
      stands-or-not false isnt none =
          let some = some-fitting task ranges term range fit in
          record {
            other = some.0;
            tried_one = subst (λ at. Among some.0 (pool range at)) (sym none) (among_right some.0 (flat_map terms_of rest) (some_terms task ranges range) some.1);
            fits_too = some.2;
            same = λ s. absurd (both_ways (list_any (is_same_place (Variable number)) (d.places ++ flat_map terms_of d.condition))
                isnt (any_passes (is_same_place (Variable number)) (Variable number) (d.places ++ flat_map terms_of d.condition) s (place_itself (Variable number))));
          }

      by : (at : Option ℕ) → position (is_same_place (Variable number)) d.places ≡ at → Pick number range term
      by (Some index) is = record {
        other = term;
        tried_one = subst (λ at. Among term (pool range at)) (sym is) (in-atom index is);
        fits_too = fit;
        same = λ s. refl;
      }
      by None is = stands-or-not (list_any (is_same_place (Variable number)) (d.places ++ flat_map terms_of d.condition)) refl is

  picked : (number : ℕ) (variables : List (List ℕ)) (given : List Place) → are_fitting task ranges given variables ≡ true →
      ((k index : ℕ) → position (is_same_place (Variable (number + k))) d.places ≡ Some index → Among (get_or given k (Object 0)) (flat_map (stated_at d.predicate index) rest)) →
      ((k : ℕ) → Stands (number + k) → Among (get_or given k (Object 0)) (flat_map terms_of rest)) → Picked number variables given
  picked number [] [] fit in-atom standing = record { others = []; chosen = tt; fitting = refl; agree = λ k s. refl }
  picked number [] (term ∷ given) fit in-atom standing = absurd (true≢false (sym fit))
  picked number (range ∷ variables) [] fit in-atom standing = absurd (true≢false (sym fit))
  picked number (range ∷ variables) (term ∷ given) fit in-atom standing =
      let parts = and_parts (is_fitting task ranges term range) (are_fitting task ranges given variables) fit in
      let here : number + 0 ≡ number = omega arith in
      let first = pick number range term parts.0 (λ index at. in-atom 0 index (ap (λ n. position (is_same_place (Variable n)) d.places) here ∙ at)) (λ s. standing 0 (subst (λ n. Stands n) (sym here) s)) in
      let later : (k : ℕ) → number + suc k ≡ number + 1 + k = λ k. omega arith in
      let more = picked (number + 1) variables given parts.1 (λ k index at. in-atom (suc k) index (ap (λ n. position (is_same_place (Variable n)) d.places) (later k) ∙ at)) (λ k s. standing (suc k) (subst (λ n. Stands n) (sym (later k)) s)) in
      record {
        others = first.other ∷ more.others;
        chosen = (first.tried_one, more.chosen);
        fitting = and_from (is_fitting task ranges first.other range) (are_fitting task ranges more.others variables) first.fits_too more.fitting;
        agree = both-agree first.other term more.others given (λ s. first.same (subst (λ n. Stands n) here s)) (λ k s. more.agree k (subst (λ n. Stands n) (later k) s));
      }
    where
      both-agree : (other term : Place) (others given : List Place) → (Stands (number + 0) → other ≡ term) → ((k : ℕ) → Stands (number + suc k) → get_or others k (Object 0) ≡ get_or given k (Object 0)) →
          (k : ℕ) → Stands (number + k) → get_or (other ∷ others) k (Object 0) ≡ get_or (term ∷ given) k (Object 0)
      both-agree other term others given first more zero s = first s
      both-agree other term others given first more (suc k) s = more k s

  -- terms that agree where a variable stands give the same row
  module _ (given others : List Place) (agree : (k : ℕ) → Stands (from + k) → get_or others k (Object 0) ≡ get_or given k (Object 0)) where
    same-term : (term : Place) → Among term (d.places ++ flat_map terms_of d.condition) → with_terms from others term ≡ with_terms from given term
    same-term (Object object) there = refl
    same-term (Variable number) there = by (nat_lt number from) refl
      where
        by : (b : Bool) → nat_lt number from ≡ b → (if b then Variable number else get_or others (number - from) (Object 0)) ≡ (if b then Variable number else get_or given (number - from) (Object 0))
        by true is = refl
        by false is =
            let most = ltb-false number from is in
            let back : number ≡ from + (number - from) = omega (arith, most) in
            agree (number - from) (subst (λ n. Stands n) back there)

    same-places : map (with_terms from others) d.places ≡ map (with_terms from given) d.places
    same-places = same_map (with_terms from others) (with_terms from given) d.places (λ t there. same-term t (among_left t d.places (flat_map terms_of d.condition) there))

    same-terms : (literal : Literal) → ((t : Place) → Among t (terms_of literal) → with_terms from others t ≡ with_terms from given t) → literal_with from others literal ≡ literal_with from given literal
    same-terms (Holds positive predicate places) same = ap (λ ts. Holds positive predicate ts) (same_map (with_terms from others) (with_terms from given) places same)
    same-terms (Equal positive left right) same =
        let one = same left (inl refl) in
        let other = same right (inr (inl refl)) in
        cc (one, other)

    same-conditions : map (literal_with from others) d.condition ≡ map (literal_with from given) d.condition
    same-conditions =
        same_map (literal_with from others) (literal_with from given) d.condition
        (λ literal there. same-terms literal (λ t in-literal. same-term t (among_right t d.places (flat_map terms_of d.condition) (among_flat_map terms_of literal t d.condition there in-literal))))

    same-test : tests others ≡ tests given
    same-test = ap (λ row. balances candidate schema part e row) same-row
      where
        same-row : row_with schema d others ≡ row_with schema d given
        same-row = let places = same-places in let conditions = same-conditions in cc (places, conditions)

  some-attempt : (given : List Place) → Among given (fittings task ranges d) → tests given ≡ true → list_any attempts (choices (tried task ranges rest d from d.variables)) ≡ true
  some-attempt given there is =
      let s = says given is in
      let fit = chosen-fitting task ranges d.variables given (choice_chosen (map (λ range. filter (fits ranges range) (terms task ranges)) d.variables) given there) in
      let p = picked from d.variables given fit (given-in-atom given s) (given-standing given s) in
      any_passes attempts p.others (choices (tried task ranges rest d from d.variables)) (chosen_choice (tried task ranges rest d from d.variables) p.others p.chosen)
      (split s.deletes p.others ∙ and_from (are_fitting task ranges p.others d.variables) (tests p.others) p.fitting (same-test given p.others p.agree ∙ is))

  has-predicate : (places : List Place) → is_at_instance candidate (instance_of part e) d.predicate places ≡ true → list_any (λ part. nat_eq part.predicate d.predicate) candidate.parts ≡ true
  has-predicate places is =
      let found = passing (λ (other : Part). nat_eq other.predicate d.predicate && pointwise is_same_place (at_positions (Object 0) other.places places) (instance_of part e)) candidate.parts is in
      any_passes (λ (part : Part). nat_eq part.predicate d.predicate) found.item candidate.parts found.among
      (and_parts (nat_eq found.item.predicate d.predicate) (pointwise is_same_place (at_positions (Object 0) found.item.places places) (instance_of part e)) found.passes).0

  -- what is tried finds the terms that balance, if there are some
  pub somehow : balances_somehow task candidate schema e rest (instance_of part e) d ≡ list_any tests (fittings task ranges d)
  somehow = same_tests _ _ forth back
    where
      forth : balances_somehow task candidate schema e rest (instance_of part e) d ≡ true → list_any tests (fittings task ranges d) ≡ true
      forth is =
          let outer = and_parts (not d.adds && list_any (λ part. nat_eq part.predicate d.predicate) candidate.parts) (list_any attempts (choices (tried task ranges rest d from d.variables))) is in
          let deletes = not-true d.adds (and_parts (not d.adds) (list_any (λ part. nat_eq part.predicate d.predicate) candidate.parts) outer.0).0 in
          let found = passing attempts (choices (tried task ranges rest d from d.variables)) outer.1 in
          let parts = and_parts (are_fitting task ranges found.item d.variables) (tests found.item) (sym (split deletes found.item) ∙ found.passes) in
          any_passes tests found.item (fittings task ranges d)
          (chosen_choice (map (λ range. filter (fits ranges range) (terms task ranges)) d.variables) found.item (fitting-chosen task ranges d.variables found.item parts.0)) parts.1

      back : list_any tests (fittings task ranges d) ≡ true → balances_somehow task candidate schema e rest (instance_of part e) d ≡ true
      back is =
          let found = passing tests (fittings task ranges d) is in
          let s = says found.item found.passes in
          and_from (not d.adds && list_any (λ part. nat_eq part.predicate d.predicate) candidate.parts) (list_any attempts (choices (tried task ranges rest d from d.variables)))
          (and_from (not d.adds) (list_any (λ part. nat_eq part.predicate d.predicate) candidate.parts) (ap not s.deletes) (has-predicate (map (with_terms from found.item) d.places) s.at_instance))
          (some-attempt found.item found.among found.passes)

-- some delete effect of the schema balances the add
pub some_delete : (task : Normal) (candidate : Candidate) (schema : Schema) (part : Part) (e : EffectRow) →
    list_any (balances_somehow task candidate schema e (required schema e) (instance_of part e)) schema.effects ≡ has_balance task candidate schema part e
some_delete task candidate schema part e =
    same_any (balances_somehow task candidate schema e (required schema e) (instance_of part e))
    (λ d. list_any (λ given. balances candidate schema part e (row_with schema d given)) (fittings task (schema.parameters ++ e.variables) d)) schema.effects
    (λ d there. somehow task candidate schema part e d)
