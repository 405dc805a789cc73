-- Rising numbers, and lists whose items differ by a test.
use Rattle.std.proofs.Common.{◌≡◌, ℕ, zero, suc, ◌+◌, ◌<◌, Bool, true, false, not, ◌⊎◌, inl, inr, List, [], ◌∷◌, map, refl, sym, ap, ◌∙◌, subst, arith}
use Rattle.std.specs.Prelude.{nat_lt}
use Rattle.std.specs.List.{list_any, filter, range_with_len}
use Rattle.std.proofs.lemmas.Bool.{true≢false, and_parts, and_from, not-true, not_from_false, ltb-true, lt-ltb, cases_Bool}
use Rattle.lists.proofs.Items.{Among, among_map, filter_among, filter_yes, filter_no, passing, none_passes, any_passes}
use Rattle.lists.proofs.NoRepeats.{Once, among_range}
use Rattle.normal_task.specs.Lawful.{differ, is_rising}

-- ---- rising numbers

-- a number is below all of a rising list, so in front of it the list rises
pub rises_from : (number : ℕ) (numbers : List ℕ) → ((other : ℕ) → Among other numbers → number < other) → is_rising numbers ≡ true → is_rising (number ∷ numbers) ≡ true
rises_from number [] below is = refl
rises_from number (next ∷ more) below is = and_from (nat_lt number next) (is_rising (next ∷ more)) (lt-ltb number next (below next (inl refl))) is

pub rises_behind : (number : ℕ) (numbers : List ℕ) → is_rising (number ∷ numbers) ≡ true → is_rising numbers ≡ true
rises_behind number [] is = refl
rises_behind number (next ∷ more) is = (and_parts (nat_lt number next) (is_rising (next ∷ more)) is).1

pub below_rising : (number : ℕ) (numbers : List ℕ) → is_rising (number ∷ numbers) ≡ true → (other : ℕ) → Among other numbers → number < other
below_rising number [] is other none = absurd none
below_rising number (next ∷ more) is other there = by there (below_rising next more parts.1 other)
  where
    parts : (nat_lt number next ≡ true) × (is_rising (next ∷ more) ≡ true)
    parts = and_parts (nat_lt number next) (is_rising (next ∷ more)) is

    first : number < next
    first = ltb-true number next parts.0

    by : (next ≡ other) ⊎ Among other more → (Among other more → next < other) → number < other
    by (inl here) rest = subst (λ n. number < n) here first
    by (inr behind) rest = let later = rest behind in let low = first in omega (arith, low, later)

pub once_rising : (numbers : List ℕ) → is_rising numbers ≡ true → Once numbers
once_rising [] is = tt
once_rising (number ∷ numbers) is = (λ there. let low = below_rising number numbers is number there in absurd (omega (arith, low)), once_rising numbers (rises_behind number numbers is))

pub rising_filter : (test : ℕ → Bool) (numbers : List ℕ) → is_rising numbers ≡ true → is_rising (filter test numbers) ≡ true
rising_filter test [] is = refl
rising_filter test (number ∷ numbers) is = by (cases_Bool (test number)) (rising_filter test numbers (rises_behind number numbers is))
  where
    by : (test number ≡ true) ⊎ (test number ≡ false) → is_rising (filter test numbers) ≡ true → is_rising (filter test (number ∷ numbers)) ≡ true
    by (inl is_kept) rest =
        subst (λ l. is_rising l ≡ true) (sym (filter_yes test number numbers is_kept))
        (rises_from number (filter test numbers) (λ other there. below_rising number numbers is other (filter_among test other numbers there).0) rest)
    by (inr is_left) rest = subst (λ l. is_rising l ≡ true) (sym (filter_no test number numbers is_left)) rest

pub rising_range : (start count : ℕ) → is_rising (range_with_len start count) ≡ true
rising_range start zero = refl
rising_range start (suc count) =
    rises_from start (range_with_len (start + 1) count) (λ other there. let low = (among_range (start + 1) count other there).0 in omega (arith, low)) (rising_range (start + 1) count)

-- lists of the same items are equal where their keys rise
pub same_rising : {X : Type 0} (key : X → ℕ) (xs ys : List X) → is_rising (map key xs) ≡ true → is_rising (map key ys) ≡ true → ((x : X) → Among x xs → Among x ys) → ((y : X) → Among y ys → Among y xs) → xs ≡ ys
same_rising key [] [] rise rise' in' back = refl
same_rising key [] (y ∷ ys) rise rise' in' back = absurd (back y (inl refl))
same_rising key (x ∷ xs) [] rise rise' in' back = absurd (in' x (inl refl))
same_rising {X = X} key (x ∷ xs) (y ∷ ys) rise rise' in' back = by (in' x (inl refl)) (back y (inl refl)) (same_rising key xs ys (rises_behind (key x) (map key xs) rise) (rises_behind (key y) (map key ys) rise'))
  where
    above : (z : X) → Among z xs → key x < key z
    above z there = below_rising (key x) (map key xs) rise (key z) (among_map key z xs there)

    above' : (z : X) → Among z ys → key y < key z
    above' z there = below_rising (key y) (map key ys) rise' (key z) (among_map key z ys there)

    heads : y ≡ x → (((z : X) → Among z xs → Among z ys) → ((z : X) → Among z ys → Among z xs) → xs ≡ ys) → x ∷ xs ≡ y ∷ ys
    heads same rest = ap (λ z. z ∷ xs) (sym same) ∙ ap (λ l. y ∷ l) (rest (λ z there. elim (in' z (inr there)) [
      | inl here ↦ let high = above z there in let at = ap key (sym same ∙ here) in absurd (omega (arith, high, at))
      | inr behind ↦ behind
    ]) (λ z there. elim (back z (inr there)) [
      | inl here ↦ let high = above' z there in let at = ap key (same ∙ here) in absurd (omega (arith, high, at))
      | inr behind ↦ behind
    ]))

    by : (y ≡ x) ⊎ Among x ys → (x ≡ y) ⊎ Among y xs → (((z : X) → Among z xs → Among z ys) → ((z : X) → Among z ys → Among z xs) → xs ≡ ys) → x ∷ xs ≡ y ∷ ys
    by (inl same) other rest = heads same rest
    by (inr there) (inl same) rest = heads (sym same) rest
    by (inr there) (inr back-there) rest = let low = above' x there in let high = above y back-there in absurd (omega (arith, low, high))

-- ---- a test of equality

module _ {X : Type 0} (same : X → X → Bool) (decides : (x y : X) → same x y ≡ true → x ≡ y) where
  pub differ_once : (xs : List X) → Once xs → differ same xs ≡ true
  differ_once [] once = refl
  differ_once (x ∷ xs) once =
      and_from (not (list_any (same x) xs)) (differ same xs)
      (not_from_false (list_any (same x) xs) (none_passes (same x) xs (λ y there is. once.0 (subst (λ z. Among z xs) (sym (decides x y is)) there)))) (differ_once xs once.1)

  pub among_if : (xs : List X) (x : X) → list_any (same x) xs ≡ true → Among x xs
  among_if xs x some = let there = passing (same x) xs some in subst (λ y. Among y xs) (sym (decides x there.item there.passes)) there.among

module _ {X : Type 0} (same : X → X → Bool) (itself : (x : X) → same x x ≡ true) where
  pub once_differ : (xs : List X) → differ same xs ≡ true → Once xs
  once_differ [] differs = tt
  once_differ (x ∷ xs) differs =
      let parts = and_parts (not (list_any (same x) xs)) (differ same xs) differs in
      (λ there. true≢false (sym (any_passes (same x) x xs there (itself x)) ∙ not-true (list_any (same x) xs) parts.0), once_differ xs parts.1)
