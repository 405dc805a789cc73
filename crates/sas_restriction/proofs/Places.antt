-- The places of numbers in a list, found from behind.
use Rattle.std.proofs.Common.{◌≡◌, ◌≢◌, ℕ, ◌-◌, ◌<◌, ◌≤◌, true, false, eqb, ltb, List, length, get_or, set, ◌⊎◌, sym, ap, ◌∙◌, subst, inl, inr, arith}
use Rattle.std.specs.List.{All}
use Rattle.std.proofs.lemmas.Bool.{cases_Bool, cases_eq, cases_lt, eq-eqb, ne_eqb, lt-ltb, le-ltb, false≢true, eqb-true}
use Rattle.std.proofs.lemmas.List.{ext_get_or, length-set, get_or-set_other}
use Rattle.std.proofs.lemmas.Grind.{get_or-set_at}
use Rattle.std.proofs.lemmas.List.Sums.{position_or_len_is, passes_at_first}
use Rattle.std.proofs.lemmas.List.FromFn.{length-map-range_with_len, get_or-map-range_with_len}
use Rattle.lists.specs.Members.{is_among}
use Rattle.sas_restriction.specs.Listed.{places_of}
use Rattle.sas_restriction.proofs.Numbers.{place, place_of, any_member, member_any}

-- the first place of the number from i on, or the length
pub record FirstFrom (vars : List ℕ) (i v p : ℕ) : Type 0 where
  pub low : i ≤ p
  pub high : p ≤ length vars
  pub before : (k : ℕ) → i ≤ k → k < p → eqb v (get_or vars k 0) ≡ false
  pub here : p < length vars → eqb v (get_or vars p 0) ≡ true

-- the table of these places
pub record ArePlaces (vars : List ℕ) (count i : ℕ) (places : List ℕ) : Type 0 where
  pub low : i ≤ length vars
  pub count_is : length places ≡ count
  pub at : (v : ℕ) → v < count → FirstFrom vars i v (get_or places v 0)

module _ (vars : List ℕ) (count : ℕ) where
  pub no_places : (places : List ℕ) → length places ≡ count → ((v : ℕ) → v < count → get_or places v 0 ≡ length vars) → ArePlaces vars count (length vars) places
  no_places places len is =
      record {
        low = omega arith;
        count_is = len;
        at = λ v below. subst (FirstFrom vars (length vars) v) (sym (is v below))
            (record { low = omega arith; high = omega arith; before = λ k from to. absurd (omega arith); here = λ lt. absurd (omega arith) });
      }

  pub one_place : (i : ℕ) (places : List ℕ) → 0 < i → ArePlaces vars count i places → ArePlaces vars count (i - 1) (set places (get_or vars (i - 1) 0) (i - 1))
  one_place i places some are =
      record {
        low = let l = are.low in omega arith;
        count_is = length-set places (get_or vars (i - 1) 0) (i - 1) ∙ are.count_is;
        at = λ v below. by_cases v below (cases_eq (get_or vars (i - 1) 0) v);
      }
    where
      by_cases : (v : ℕ) → v < count → (get_or vars (i - 1) 0 ≡ v) ⊎ (get_or vars (i - 1) 0 ≢ v) → FirstFrom vars (i - 1) v (get_or (set places (get_or vars (i - 1) 0) (i - 1)) v 0)
      by_cases v below (inl same) =
          let within : v < length places = subst (λ n. v < n) (sym are.count_is) below in
          let l = are.low in
          subst (FirstFrom vars (i - 1) v) (sym (set_here v within same))
          (record { low = omega arith; high = omega arith; before = λ k from to. absurd (omega arith); here = λ lt. eq-eqb v (get_or vars (i - 1) 0) (sym same) })
        where
          set_here : (v : ℕ) → v < length places → get_or vars (i - 1) 0 ≡ v → get_or (set places (get_or vars (i - 1) 0) (i - 1)) v 0 ≡ i - 1
          set_here v within same = get_or-set_at places (get_or vars (i - 1) 0) v (i - 1) 0 (sym same) (subst (λ w. w < length places) (sym same) within)
      by_cases v below (inr other) =
          let old = are.at v below in
          let f = old.low in
          subst (FirstFrom vars (i - 1) v) (sym (set_elsewhere v other))
          (record {
            low = omega arith;
            high = old.high;
            before = λ k from to. elim (cases_lt k i) [
              | inl lt ↦ let e : k ≡ i - 1 = omega arith in ap (λ j. eqb v (get_or vars j 0)) e ∙ ne_eqb v (get_or vars (i - 1) 0) (λ same. other (sym same))
              | inr ge ↦ old.before k ge to
            ];
            here = old.here;
          })
        where
          set_elsewhere : (v : ℕ) → get_or vars (i - 1) 0 ≢ v → get_or (set places (get_or vars (i - 1) 0) (i - 1)) v 0 ≡ get_or places v 0
          set_elsewhere v other = get_or-set_other places (get_or vars (i - 1) 0) v (i - 1) 0 (λ e. other (sym e))

  pub all_places : (places : List ℕ) → ArePlaces vars count 0 places → places ≡ places_of vars count
  all_places places are =
      ext_get_or 0 places (places_of vars count) (are.count_is ∙ sym (length-map-range_with_len (place vars) 0 count)) (λ v within.
      let below : v < count = subst (λ n. v < n) are.count_is within in
      let at = are.at v below in
      sym (get_or-map-range_with_len (place vars) 0 count v v 0 below (omega arith)
      ∙ position_or_len_is (eqb v) vars (get_or places v 0) 0 at.high (λ k lt. at.before k (omega arith) lt) at.here))

  -- a look-up in the table
  pub place_at : (places : List ℕ) (v p : ℕ) → places ≡ places_of vars count → v < count → get_or places v p ≡ place vars v
  place_at places v p are below = ap (λ ps. get_or ps v p) are ∙ get_or-map-range_with_len (place vars) 0 count v v p below (omega arith)

  -- and past its end, where no variable is
  pub no_place : (v : ℕ) → All (λ w. w < count) vars → count ≤ v → place vars v ≡ length vars
  no_place v inside past =
      position_or_len_is (eqb v) vars (length vars) 0 (omega arith)
      (λ k lt. ne_eqb v (get_or vars k 0) (λ same. let below : get_or vars k 0 < count = inside k 0 lt in absurd (omega arith)))
      (λ lt. absurd (omega arith))

-- a number is in the list where it has a place
pub has_place : (vars : List ℕ) (v : ℕ) → ltb (place vars v) (length vars) ≡ is_among eqb vars v
has_place vars v =
    elim (cases_Bool (is_among eqb vars v)) [
      | inl some ↦ lt-ltb (place vars v) (length vars) (place_of vars v (any_member v vars some)).0 ∙ sym some
      | inr none ↦ elim (cases_lt (place vars v) (length vars)) [
        | inr past ↦ le-ltb (place vars v) (length vars) past ∙ sym none
        | inl low ↦ absurd (false≢true (sym none ∙ there low))
      ]
    ]
  where
    there : place vars v < length vars → is_among eqb vars v ≡ true
    there low = member_any v vars (place vars v, low, sym (eqb-true v (get_or vars (place vars v) v) (passes_at_first (eqb v) vars v low)))
