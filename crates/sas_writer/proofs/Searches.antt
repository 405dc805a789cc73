-- What a binary search finds in a list that is sorted.
use Rattle.std.proofs.Common.{◌≡◌, ℕ, ◌+◌, ◌<◌, ◌≤◌, false, cond, eqb, List, length, map, get_or, Some, None, Result, Ok, Err, sym, ap, ◌∙◌, subst, inl, inr, arith}
use Rattle.std.specs.Prelude.{is_ok}
use Rattle.std.specs.List.{list_any, find, slice_get}
use Rattle.std.specs.List.Sorted.{IsNonDecreasing, IsStrictlyIncreasing, IsBinarySearchResult, IsNonDecreasingBy}
use Rattle.std.specs.Option.{option_map}
use Rattle.std.specs.Ordering.{nat_cmp, is_lt, ordering_index}
use Rattle.std.specs.declared.cmp.Ordering.TheVariants.{Less, Equal, Greater}
use Rattle.std.proofs.lemmas.Bool.{cases_lt, eq-eqb, ne_eqb, le-ltb}
use Rattle.std.proofs.lemmas.Cmp.{ranked, nat_cmp_total}
use Rattle.std.proofs.lemmas.List.{get_or-map, get_or_default, length-map}
use Rattle.std.proofs.lemmas.List.Folds.{find_at, list_any_at, list_any_none}
use Rattle.std.proofs.lemmas.List.Kept.{AllPairs-from_increasing}
use Rattle.std.proofs.lemmas.List.Sorted.{searched, searchable_from_sorted}
use Rattle.std.proofs.lemmas.List.Sums.{position_or_len_is}
use Rattle.std.proofs.lemmas.Option.{slice_get-get_or, slice_get_past}
use Rattle.sas_task.specs.declared.parts.Pair.{Pair}

-- a search finds a number exactly where the list has it
pub found_is_any : (xs : List ℕ) (x : ℕ) (r : Result ℕ ℕ) → IsBinarySearchResult (λ y. nat_cmp y x) xs r → IsNonDecreasing xs → is_ok r ≡ list_any (λ v. eqb v x) xs
found_is_any xs x (Ok i) search up =
    let at = searched xs x (Ok i) search (λ i j le below. up i j 0 le below) in
    sym (list_any_at (λ v. eqb v x) xs i 0 at.0 (eq-eqb (get_or xs i 0) x at.1))
found_is_any xs x (Err i) search up =
    sym (list_any_none (λ v. eqb v x) xs (λ k d below. other k d below (get_or_default xs k d 0 below) (searched xs x (Err i) search (λ i j le below. up i j 0 le below))))
  where
    other : (k d : ℕ) → k < length xs → get_or xs k d ≡ get_or xs k 0 → (i ≤ length xs) × ((k : ℕ) → k < i → get_or xs k 0 < x) × ((k : ℕ) → i ≤ k → k < length xs → x < get_or xs k 0) → eqb (get_or xs k d) x ≡ false
    other k d below e at =
        ne_eqb (get_or xs k d) x (λ is. elim (cases_lt k i) [
          | inl before ↦ let l : get_or xs k 0 < x = at.1 k before in absurd (omega arith)
          | inr after ↦ let l : x < get_or xs k 0 = at.2 k after below in absurd (omega arith)
        ])

-- pairs that are sorted by variable
module _ (pairs : List Pair) (var : ℕ) (sorted : IsStrictlyIncreasing (map (λ p. p.var) pairs)) where
  rises : (i j : ℕ) (d : Pair) → i < j → j < length pairs → (get_or pairs i d).var < (get_or pairs j d).var
  rises i j d before within =
      let at = AllPairs-from_increasing (map (λ p. p.var) pairs) sorted i j 0 before (subst (λ n. j < n) (sym (length-map pairs (λ p. p.var))) within) in
      let earlier : i < length pairs = omega arith in
      let e-i = get_or-map (λ (p : Pair). p.var) pairs i d 0 earlier in
      let e-j = get_or-map (λ (p : Pair). p.var) pairs j d 0 within in
      omega (arith, at, e-i, e-j)

  next_is_greater : (a b : ℕ) → a < b → is_lt (nat_cmp b a) ≡ false
  next_is_greater a b less = ap (λ t. is_lt (cond t Less (cond (eqb b a) Equal Greater))) (le-ltb b a (omega arith)) ∙ ap (λ t. is_lt (cond t Equal Greater)) (ne_eqb b a (λ e. absurd (omega arith)))

  -- the answers of the search rise
  searchable : IsNonDecreasingBy (λ p. ordering_index (nat_cmp p.var var)) pairs
  searchable =
      searchable_from_sorted nat_cmp_total (λ p. p.var) pairs var (λ k d low within.
      next_is_greater (get_or pairs k d).var (get_or pairs (k + 1) d).var (rises k (k + 1) d (omega arith) within))

  -- the pair that was found is the first on the variable
  pub value_found : (i : ℕ) (d : Pair) → i < length pairs → IsBinarySearchResult (λ p. nat_cmp p.var var) pairs (Ok i) → Some (get_or pairs i d).val ≡ option_map (λ p. p.val) (find (λ p. eqb p.var var) pairs)
  value_found i d within search =
      let on : (get_or pairs i d).var ≡ var = ranked (get_or pairs i d).var var Equal (sym (search d)) in
      let first = position_or_len_is (λ p. eqb p.var var) pairs i d (omega arith) (λ k before.
      let less : (get_or pairs k d).var < (get_or pairs i d).var = rises k i d before within in
      ne_eqb (get_or pairs k d).var var (λ e. absurd (omega arith))) (λ below. eq-eqb (get_or pairs i d).var var on) in
      sym (ap (option_map (λ (p : Pair). p.val)) (find_at (λ p. eqb p.var var) pairs ∙ ap (slice_get pairs) first ∙ slice_get-get_or pairs i d within))

  -- where the search finds none, no pair is on the variable
  pub value_absent : (i : ℕ) → IsBinarySearchResult (λ p. nat_cmp p.var var) pairs (Err i) → None ≡ option_map (λ p. p.val) (find (λ p. eqb p.var var) pairs)
  value_absent i search =
      let parted = search searchable in
      let past = position_or_len_is (λ p. eqb p.var var) pairs (length pairs) (record { var = 0; val = 0 }) (omega arith)
      (λ k within. elim (cases_lt k i) [
        | inl before ↦
            let p = get_or pairs k (record { var = 0; val = 0 }) in
            let less : p.var < var = ranked p.var var Less (sym (parted.0 k (record { var = 0; val = 0 }) (omega arith) before)) in
            ne_eqb p.var var (λ e. absurd (omega arith))
        | inr after ↦
            let p = get_or pairs k (record { var = 0; val = 0 }) in
            let more : var < p.var = ranked p.var var Greater (sym (parted.1 k (record { var = 0; val = 0 }) after within)) in
            ne_eqb p.var var (λ e. absurd (omega arith))
      ])
      (λ below. absurd (omega arith)) in
      sym (ap (option_map (λ (p : Pair). p.val)) (find_at (λ p. eqb p.var var) pairs ∙ ap (slice_get pairs) past ∙ slice_get_past pairs (length pairs) (omega arith)))
