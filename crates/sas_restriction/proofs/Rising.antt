-- Numbers that rise: how many of them are below a number, and whether it is one of them, as searches find it.
use Rattle.std.proofs.Common.{◌≡◌, ℕ, zero, suc, ◌<◌, ◌≤◌, Bool, true, false, cond, eqb, ltb, List, [], ◌∷◌, filter, length, get_or, Result, Ok, Err, sym, ap, ◌∙◌, inl, inr, arith}
use Rattle.std.specs.List.Sorted.{IsStrictlyIncreasing, IsNonDecreasing, IsPartitionPoint, IsBinarySearchResult}
use Rattle.std.specs.Ordering.{nat_cmp}
use Rattle.std.specs.Result.{is_ok}
use Rattle.std.proofs.lemmas.Bool.{cases_eq, cases_lt, eq-eqb, ne_eqb, lt-ltb, le-ltb}
use Rattle.std.proofs.lemmas.List.{get_or_default}
use Rattle.std.proofs.lemmas.List.Elements.{All-from_get_or}
use Rattle.std.proofs.lemmas.List.Folds.{list_any_at, list_any_none}
use Rattle.std.proofs.lemmas.List.Kept.{AllPairs-from_increasing}
use Rattle.std.proofs.lemmas.List.Sorted.{searched}
use Rattle.lists.specs.Members.{is_among}

-- they don't fall
pub never_falls : (xs : List ℕ) → IsStrictlyIncreasing xs → IsNonDecreasing xs
never_falls xs rises i j d le low =
    elim (cases_eq i j) [
      | inl same ↦ let at = ap (λ k. get_or xs k d) same in omega (arith, at)
      | inr other ↦ let less = AllPairs-from_increasing xs rises i j d (omega arith) low in omega (arith, less)
    ]

-- as many pass a test as stand before the point up to which all pass it and from which on none does
pub pass_before : {X : Type 0} (test : X → Bool) (xs : List X) (point : ℕ) → point ≤ length xs → IsPartitionPoint (λ x. test x ≡ true) (λ x. test x ≡ false) xs point → length (filter test xs) ≡ point
pass_before test [] point within parted = omega arith
pass_before test (x ∷ xs) zero within parted =
    ap (λ passes. length (cond passes (x ∷ filter test xs) (filter test xs))) (parted.1 0 x (omega arith) (omega arith))
    ∙ pass_before test xs 0 (omega arith) (λ k d from to. absurd (omega arith), λ k d from to. parted.1 (suc k) d (omega arith) (omega arith))
pass_before test (x ∷ xs) (suc point) within parted =
    ap (λ passes. length (cond passes (x ∷ filter test xs) (filter test xs))) (parted.0 0 x (omega arith) (omega arith))
    ∙ ap suc (pass_before test xs point (omega arith) (λ k d from to. parted.0 (suc k) d (omega arith) (omega arith), λ k d from to. parted.1 (suc k) d (omega arith) (omega arith)))

-- a binary search finds a number that is one of them, and no other
pub finds : (xs : List ℕ) (x : ℕ) (found : Result ℕ ℕ) → IsStrictlyIncreasing xs → IsBinarySearchResult (λ y. nat_cmp y x) xs found → is_ok found ≡ is_among eqb xs x
finds xs x (Ok i) rises answer =
    let at = searched xs x (Ok i) answer (λ a b le low. never_falls xs rises a b 0 le low) in
    sym (list_any_at (eqb x) xs i 0 at.0 (eq-eqb x (get_or xs i 0) (sym at.1)))
finds xs x (Err i) rises answer =
    let at = searched xs x (Err i) answer (λ a b le low. never_falls xs rises a b 0 le low) in
    sym (list_any_none (eqb x) xs (All-from_get_or (λ v. eqb x v ≡ false) xs 0 (λ k low.
    ne_eqb x (get_or xs k 0) (λ same.
    elim (cases_lt k i) [
      | inl lt ↦ let less = at.1 k lt in absurd (omega (arith, less, same))
      | inr ge ↦ let more = at.2 k ge low in absurd (omega (arith, more, same))
    ]))))

-- as many are below a number that stands at its own place
pub at_home : (xs : List ℕ) (val : ℕ) → IsStrictlyIncreasing xs → (val < length xs) × (get_or xs val 0 ≡ val) → length (filter (λ v. ltb v val) xs) ≡ val
at_home xs val rises home =
    pass_before (λ v. ltb v val) xs val (omega (arith, home.0)) (
      λ k d from to. lt-ltb (get_or xs k d) val (let less = AllPairs-from_increasing xs rises k val d to home.0 in let is = get_or_default xs val d 0 home.0 ∙ home.1 in omega (arith, less, is)),
      λ k d from to. le-ltb (get_or xs k d) val (let most = never_falls xs rises val k d from to in let is = get_or_default xs val d 0 home.0 ∙ home.1 in omega (arith, most, is)),
    )

pub home_found : (xs : List ℕ) (val : ℕ) → (val < length xs) × (get_or xs val 0 ≡ val) → is_among eqb xs val ≡ true
home_found xs val home = list_any_at (eqb val) xs val 0 home.0 (eq-eqb val (get_or xs val 0) (sym home.1))
