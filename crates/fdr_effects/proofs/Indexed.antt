-- The places of facts, gathered set by set.
use Rattle.std.proofs.Common.{◌≡◌, ℕ, suc, ◌+◌, ◌<◌, ◌≤◌, Bool, true, false, cond, not, eqb, ◌||◌, List, [], ◌∷◌, ◌++◌, map, take, length, get_or, refl, sym, ap, ◌∙◌, subst, inl, inr, arith}
use Rattle.std.specs.List.{All, Contains, filter, flat_map, range_with_len, position_or_len, list_any}
use Rattle.std.specs.List.Sorted.{IsStrictlyIncreasing}
use Rattle.std.proofs.lemmas.Bool.{cases_Bool, cases_eq, cond-true, cond-false, eq-eqb, ne_eqb, or_cases, or_left, or_right, both_ways, false_from_ne_true}
use Rattle.std.proofs.lemmas.List.{get_or_default, get_or-take, length-take-le, take_more}
use Rattle.std.proofs.lemmas.List.Folds.{list_any-append}
use Rattle.std.proofs.lemmas.List.Kept.{AllPairs-from_increasing}
use Rattle.lists.specs.Members.{is_among}
use Rattle.lists.specs.Rows.{Adds}
use Rattle.lists.proofs.LoopSteps.{flat_map_range_next}
use Rattle.lists.proofs.Members.{filter_none, range_member}
use Rattle.lists.proofs.RowSteps.{at_number, both}
use Rattle.sas_task.specs.declared.parts.Pair.{Pair}
use Rattle.sas_task.specs.Pairs.{pair}
use Rattle.fdr_effects.specs.Places.{Cover, set_of, places}
use Rattle.fdr_effects.specs.Marks.{place_in}
use Rattle.fdr_effects.proofs.Sets.{has_member}

-- what passes of a map
map_filter : {X Y : Type 0} (f : X → Y) (p : X → Bool) (xs : List X) → map f (filter p xs) ≡ flat_map (λ x. cond (p x) (f x ∷ []) []) xs
map_filter f p [] = refl
map_filter f p (x ∷ xs) = by_case (p x) (map_filter f p xs)
  where
    by_case : (b : Bool) → map f (filter p xs) ≡ flat_map (λ x. cond (p x) (f x ∷ []) []) xs → map f (cond b (x ∷ filter p xs) (filter p xs)) ≡ cond b (f x ∷ []) [] ++ flat_map (λ x. cond (p x) (f x ∷ []) []) xs
    by_case true rest = ap (λ l. f x ∷ l) rest
    by_case false rest = rest

-- the places of a fact in the first sets
abbrev pub places_below : Cover → ℕ → ℕ → List Pair
places_below cover count fact = flat_map (λ var. place_in var (set_of cover var) fact) (range_with_len 0 count)

-- its places are those in all sets
pub places_by_set : (cover : Cover) (fact : ℕ) → places cover fact ≡ places_below cover (length cover) fact
places_by_set cover fact =
    map_filter (λ var. pair var (position_or_len (eqb fact) (set_of cover var))) (λ var. is_among eqb (set_of cover var) fact) (range_with_len 0 (length cover))

-- there are none where the sets have lower numbers alone
pub no_places : (cover : Cover) (facts fact : ℕ) → All (λ set. All (λ f. f < facts) set) cover → facts ≤ fact → places cover fact ≡ []
no_places cover facts fact low past =
    ap (map (λ var. pair var (position_or_len (eqb fact) (set_of cover var)))) (filter_none (λ var. is_among eqb (set_of cover var) fact) (range_with_len 0 (length cover)) (λ var in'.
    false_from_ne_true (is_among eqb (set_of cover var) fact) (λ is.
    let at = has_member (set_of cover var) fact is in
    let below : get_or (set_of cover var) at.0 fact < facts = low var [] (range_member (length cover) var in') at.0 fact at.1 in
    let same : get_or (set_of cover var) at.0 fact ≡ fact = at.2 in
    omega arith)))

-- a position in a longer list
module _ (p : ℕ → Bool) where
  abbrev step : Bool → ℕ → ℕ
  step b n = cond (not b) (1 + n) 0

  position_before : (xs ys : List ℕ) → list_any p xs ≡ true → position_or_len p (xs ++ ys) ≡ position_or_len p xs
  position_before [] ys none = absurd (both_ways false refl none)
  position_before (x ∷ xs) ys passes =
      elim (cases_Bool (p x)) [
        | inl yes' ↦ ap (λ b. step b (position_or_len p (xs ++ ys))) yes' ∙ sym (ap (λ b. step b (position_or_len p xs)) yes')
        | inr no' ↦ ap (step (p x)) (position_before xs ys (elim (or_cases (p x) (list_any p xs) passes) [ inl here ↦ absurd (both_ways (p x) no' here) | inr later ↦ later ]))
      ]

  position_last : (xs : List ℕ) (x : ℕ) → list_any p xs ≡ false → p x ≡ true → position_or_len p (xs ++ x ∷ []) ≡ length xs
  position_last [] x none is = ap (λ b. step b 0) is
  position_last (y ∷ xs) x none is =
      let no' = false_from_ne_true (p y) (λ h. both_ways (list_any p (y ∷ xs)) none (or_left (p y) (list_any p xs) h)) in
      let rest = false_from_ne_true (list_any p xs) (λ h. both_ways (list_any p (y ∷ xs)) none (or_right (p y) (list_any p xs) h)) in
      ap (λ b. step b (position_or_len p (xs ++ x ∷ []))) no' ∙ ap (λ n. 1 + n) (position_last xs x rest is) ∙ (let more : 1 + length xs ≡ suc (length xs) = omega arith in more)

-- the place in a set with one more fact
place_in_more : (var : ℕ) (xs : List ℕ) (x fact : ℕ) → (Contains xs x → ⊥) → place_in var (xs ++ x ∷ []) fact ≡ place_in var xs fact ++ at_number x (pair var (length xs)) fact
place_in_more var xs x fact new =
    ap (λ b. cond b (pair var (position_or_len test (xs ++ x ∷ [])) ∷ []) []) (list_any-append test xs (x ∷ []))
    ∙ elim (cases_eq x fact) [
      | inl same ↦
          let yes' = eq-eqb fact x (sym same) in
          let none : list_any test xs ≡ false = false_from_ne_true (list_any test xs) (λ h. new (subst (Contains xs) (sym same) (has_member xs fact h))) in
          both_cases (list_any test xs) (eqb fact x) false true none yes'
          ∙ ap (λ n. pair var n ∷ []) (position_last test xs x none yes')
          ∙ sym (ap (λ b. cond b (pair var (position_or_len test xs) ∷ []) [] ++ at_number x (pair var (length xs)) fact) none ∙ cond-true (eqb x fact) (pair var (length xs) ∷ []) [] (eq-eqb x fact same))
      | inr apart ↦
          let no' = ne_eqb fact x (λ same. apart (sym same)) in
          let elsewhere = cond-false (eqb x fact) (pair var (length xs) ∷ []) [] (ne_eqb x fact apart) in
          elim (cases_Bool (list_any test xs)) [
            | inl is ↦
                both_cases (list_any test xs) (eqb fact x) true false is no'
                ∙ ap (λ n. pair var n ∷ []) (position_before test xs (x ∷ []) is)
                ∙ sym (ap (λ b. cond b (pair var (position_or_len test xs) ∷ []) [] ++ at_number x (pair var (length xs)) fact) is ∙ ap (λ l. pair var (position_or_len test xs) ∷ l) elsewhere)
            | inr none ↦
                both_cases (list_any test xs) (eqb fact x) false false none no'
                ∙ sym (ap (λ b. cond b (pair var (position_or_len test xs) ∷ []) [] ++ at_number x (pair var (length xs)) fact) none ∙ elsewhere)
          ]
    ]
  where
    test : ℕ → Bool
    test = eqb fact

    both_cases : (a b a' b' : Bool) → a ≡ a' → b ≡ b' → cond (a || (b || false)) (pair var (position_or_len test (xs ++ x ∷ [])) ∷ []) [] ≡ cond (a' || (b' || false)) (pair var (position_or_len test (xs ++ x ∷ [])) ∷ []) []
    both_cases a b a' b' is is' =
        ap (λ c. cond (c || (b || false)) (pair var (position_or_len test (xs ++ x ∷ [])) ∷ []) []) is
        ∙ ap (λ c. cond (a' || (c || false)) (pair var (position_or_len test (xs ++ x ∷ [])) ∷ []) []) is'

-- a fact of a set isn't among those before it
not_before : (xs : List ℕ) → IsStrictlyIncreasing xs → (i : ℕ) → i < length xs → Contains (take i xs) (get_or xs i 0) → ⊥
not_before xs up i within in' =
    let k = in'.0 in
    let x = get_or xs i 0 in
    let long = length-take-le i xs (omega arith) in
    let low : k < i = omega (arith, in'.1) in
    let less = AllPairs-from_increasing xs up k i x low within in
    let here : get_or xs k x ≡ x = sym (get_or-take i xs k x low) ∙ in'.2 in
    let same = get_or_default xs i x 0 within in
    absurd (omega arith)

-- rows with one more place
pub next_place : (var : ℕ) (facts : List ℕ) (i : ℕ) → i < length facts → IsStrictlyIncreasing facts → (a b c : List (List Pair)) → Adds (place_in var (take i facts)) a b → Adds (at_number (get_or facts i 0) (pair var i)) b c → Adds (place_in var (take (i + 1) facts)) a c
next_place var facts i within up a b c before one =
    let x = get_or facts i 0 in
    let long = length-take-le i facts (omega arith) in
    let more : (λ fact. place_in var (take i facts) fact ++ at_number x (pair var i) fact) ≡ place_in var (take (i + 1) facts) = λ j fact.
    sym (ap (λ l. place_in var l fact) (take_more facts i 0 within)
    ∙ place_in_more var (take i facts) x fact (not_before facts up i within)
    ∙ ap (λ n. place_in var (take i facts) fact ++ at_number x (pair var n) fact) long) j in
    subst (λ piece. Adds piece a c) more (both (place_in var (take i facts)) (at_number x (pair var i)) a b c before one)

-- rows with the places in one more set
pub next_set : (sets : Cover) (var : ℕ) (a b c : List (List Pair)) → Adds (places_below sets var) a b → Adds (place_in var (set_of sets var)) b c → Adds (places_below sets (var + 1)) a c
next_set sets var a b c before one =
    let more : (λ fact. places_below sets var fact ++ place_in var (set_of sets var) fact) ≡ places_below sets (var + 1) = λ j fact. sym (flat_map_range_next (λ v. place_in v (set_of sets v) fact) var) j in
    subst (λ piece. Adds piece a c) more (both (places_below sets var) (place_in var (set_of sets var)) a b c before one)
