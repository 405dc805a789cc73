-- Marks as the bits of words: with one bit more, there is one mark more.
use Rattle.std.proofs.Common.{◌≡◌, ◌≢◌, ℕ, zero, suc, ◌+◌, ◌-◌, ◌*◌, ◌/◌, ◌%◌, ◌^◌, ◌<◌, ◌≤◌, Bool, true, false, not, cond, eqb, List, [], ◌∷◌, ◌++◌, map, filter, length, get_or, set, replicate, bit_and, bit_or, append-nil, sym, ap, ◌∙◌, subst, inl, inr, arith}
use Rattle.std.specs.Prelude.{min}
use Rattle.std.specs.Int.{bit_at}
use Rattle.std.specs.List.{range_with_len}
use Rattle.std.proofs.lemmas.Bool.{cases_eq, cases_lt, ne_eqb}
use Rattle.std.proofs.lemmas.Nat.{and_or_self, and_or_apart, and_le_l, pow_apart, pow_pos, shr-shr}
use Rattle.std.proofs.lemmas.List.{ext_get_or, length-set, length-replicate, get_or-set_same, get_or-set_other, get_or-replicate, get_or_past, set_past}
use Rattle.std.proofs.lemmas.List.FromFn.{get_or-map-range_with_len, length-map-range_with_len}
use Rattle.std.proofs.lemmas.List.Elements.{filter-append}
use Rattle.lists.proofs.Members.{range_member, same_filter}
use Rattle.lists.proofs.LoopSteps.{range_next}
use Rattle.sas_restriction.proofs.Renumbered.{agree}
use Rattle.pass_h2.specs.Bits.{has_bit, mark_at, marks_of, with_bit}
use Rattle.pass_h2.specs.MarkLists.{places}
use Rattle.pass_h2.proofs.OneBit.{is_set, has_bit_is}

-- ---- one word

own_bit : (word k : ℕ) → has_bit (bit_or word (2 ^ k)) k ≡ true
own_bit word k =
    let some = pow_pos k in
    ap (λ n. not (eqb n 0)) (and_or_self (2 ^ k) word) ∙ ap not (ne_eqb (2 ^ k) 0 (λ z. absurd (omega (arith, some, z))))

other_bit : (word k j : ℕ) → k ≢ j → has_bit (bit_or word (2 ^ k)) j ≡ has_bit word j
other_bit word k j apart = ap (λ n. not (eqb n 0)) (and_or_apart (2 ^ j) word (2 ^ k) (pow_apart k j apart))

no_bit : (k : ℕ) → has_bit 0 k ≡ false
no_bit k =
    let low = and_le_l 0 (2 ^ k) in
    let none : bit_and 0 (2 ^ k) ≡ 0 = omega (arith, low) in
    ap (λ n. not (eqb n 0)) none

-- ---- words

same_place : (p i : ℕ) → p / 64 ≡ i / 64 → p % 64 ≡ i % 64 → p ≡ i
same_place p i words bits = omega (arith, words, bits)

module _ (words : List ℕ) (p : ℕ) (within : p / 64 < length words) where
  marked_here : mark_at (with_bit words p) p ≡ true
  marked_here = ap (λ word. has_bit word (p % 64)) (get_or-set_same words (p / 64) (bit_or (get_or words (p / 64) 0) (2 ^ (p % 64))) 0 within) ∙ own_bit (get_or words (p / 64) 0) (p % 64)

  marked_there : (i : ℕ) → p ≢ i → mark_at (with_bit words p) i ≡ mark_at words i
  marked_there i apart =
      elim (cases_eq (i / 64) (p / 64)) [
        | inr differ ↦ ap (λ word. has_bit word (i % 64)) (get_or-set_other words (p / 64) (i / 64) (bit_or (get_or words (p / 64) 0) (2 ^ (p % 64))) 0 differ)
        | inl same ↦
            ap (λ n. has_bit (get_or (with_bit words p) n 0) (i % 64)) same
            ∙ ap (λ word. has_bit word (i % 64)) (get_or-set_same words (p / 64) (bit_or (get_or words (p / 64) 0) (2 ^ (p % 64))) 0 within)
            ∙ other_bit (get_or words (p / 64) 0) (p % 64) (i % 64) (λ bits. apart (same_place p i (sym same) bits))
            ∙ ap (λ n. has_bit (get_or words n 0) (i % 64)) (sym same)
      ]

-- ---- the marks

pub count_is : (words : List ℕ) (count : ℕ) → length (marks_of words count) ≡ count
count_is words count = length-map-range_with_len (mark_at words) 0 count

pub marked_below : (words : List ℕ) (count i : ℕ) (other : Bool) → i < count → get_or (marks_of words count) i other ≡ mark_at words i
marked_below words count i other below = let e : 0 + i ≡ i = omega arith in get_or-map-range_with_len (mark_at words) 0 count i i other below e

pub marked_past : (words : List ℕ) (count i : ℕ) (other : Bool) → count ≤ i → get_or (marks_of words count) i other ≡ other
marked_past words count i other past = get_or_past (marks_of words count) i other (subst (λ n. n ≤ i) (sym (count_is words count)) past)

pub one_mark_more : (words : List ℕ) (count p : ℕ) → p / 64 < length words → p < count → marks_of (with_bit words p) count ≡ set (marks_of words count) p true
one_mark_more words count p within below =
    ext_get_or false (marks_of (with_bit words p) count) (set (marks_of words count) p true)
    (count_is (with_bit words p) count ∙ sym (length-set (marks_of words count) p true ∙ count_is words count)) (λ i low.
    let low-i : i < count = subst (λ n. i < n) (count_is (with_bit words p) count) low in
    marked_below (with_bit words p) count i false low-i ∙ at i low-i)
  where
    at : (i : ℕ) → i < count → mark_at (with_bit words p) i ≡ get_or (set (marks_of words count) p true) i false
    at i low =
        elim (cases_eq i p) [
          | inl same ↦
              ap (mark_at (with_bit words p)) same ∙ marked_here words p within
              ∙ sym (ap (λ n. get_or (set (marks_of words count) p true) n false) same ∙ get_or-set_same (marks_of words count) p true false (subst (λ n. p < n) (sym (count_is words count)) below))
          | inr differ ↦
              marked_there words p within i (λ e. differ (sym e))
              ∙ sym (get_or-set_other (marks_of words count) p i true false differ ∙ marked_below words count i false low)
        ]

pub no_mark_more : (words : List ℕ) (count p : ℕ) → count ≤ p → set (marks_of words count) p true ≡ marks_of words count
no_mark_more words count p past = set_past (marks_of words count) p true (subst (λ n. n ≤ p) (sym (count_is words count)) past)

-- words of zero have no marks
pub no_marks : (n count : ℕ) → marks_of (replicate n 0) count ≡ replicate count false
no_marks n count =
    ext_get_or false (marks_of (replicate n 0) count) (replicate count false) (count_is (replicate n 0) count ∙ sym (length-replicate count false)) (λ i low.
    let low-i : i < count = subst (λ n. i < n) (count_is (replicate n 0) count) low in
    marked_below (replicate n 0) count i false low-i
    ∙ ap (λ word. has_bit word (i % 64)) (zero_word (i / 64)) ∙ no_bit (i % 64)
    ∙ sym (get_or-replicate count i false false low-i))
  where
    zero_word : (i : ℕ) → ◌≡◌ {A = ℕ} (get_or (replicate n 0) i 0) 0
    zero_word i =
        elim (cases_lt i n) [
          | inl below ↦ get_or-replicate n i 0 0 below
          | inr past ↦ get_or_past (replicate n 0) i 0 (subst (λ m. m ≤ i) (sym (length-replicate n 0)) past)
        ]

-- ---- two lists of marks, word by word

module _ (on : ℕ → ℕ → ℕ) (test : Bool → Bool → Bool) (of_bits : (a b bit : ℕ) → has_bit (on a b) bit ≡ test (has_bit a bit) (has_bit b bit)) where
  abbrev on_words : List ℕ → List ℕ → List ℕ
  on_words front back = map (λ i. on (get_or front i 0) (get_or back i 0)) (range_with_len 0 (length front))

  abbrev on_marks : List Bool → List Bool → List Bool
  on_marks front back = map (λ i. test (get_or front i false) (get_or back i false)) (range_with_len 0 (min (length front) (length back)))

  -- the words made of two lists' words suffice for the marks that both have
  pub enough : (front back made : List ℕ) (n m count : ℕ) → made ≡ on_words front back → count ≡ min n m → n ≤ 64 * length front → count ≤ 64 * length made
  enough front back made n m count is few within =
      let long : length made ≡ length front = ap length is ∙ length-map-range_with_len (λ i. on (get_or front i 0) (get_or back i 0)) 0 (length front) in
      omega (arith, few, long, within)

  by_words : (front back : List ℕ) (n m : ℕ) → n ≤ 64 * length front → marks_of (on_words front back) (min n m) ≡ on_marks (marks_of front n) (marks_of back m)
  by_words front back n m within =
      agree (mark_at (on_words front back)) (λ i. test (get_or (marks_of front n) i false) (get_or (marks_of back m) i false)) (range_with_len 0 (min n m)) (λ i in'. at i (range_member (min n m) i in'))
      ∙ sym (ap (λ k. map (λ i. test (get_or (marks_of front n) i false) (get_or (marks_of back m) i false)) (range_with_len 0 k)) (ap (λ k. min k (length (marks_of back m))) (count_is front n) ∙ ap (min n) (count_is back m)))
    where
      at : (i : ℕ) → i < min n m → mark_at (on_words front back) i ≡ test (get_or (marks_of front n) i false) (get_or (marks_of back m) i false)
      at i low =
          let low-n : i < n = omega (arith, low) in
          let low-m : i < m = omega (arith, low) in
          let word : i / 64 < length front = omega (arith, low-n, within) in
          let e : 0 + i / 64 ≡ i / 64 = omega arith in
          ap (λ word. has_bit word (i % 64)) (get_or-map-range_with_len (λ i. on (get_or front i 0) (get_or back i 0)) 0 (length front) (i / 64) (i / 64) 0 word e)
          ∙ of_bits (get_or front (i / 64) 0) (get_or back (i / 64) 0) (i % 64)
          ∙ sym (ap (λ x. test x (get_or (marks_of back m) i false)) (marked_below front n i false low-n) ∙ ap (test (mark_at front i)) (marked_below back m i false low-m))

  -- and so they mark, place by place
  pub both : (front back made : List ℕ) (n m count : ℕ) (fronts backs : List Bool) → made ≡ on_words front back → count ≡ min n m → n ≤ 64 * length front → marks_of front n ≡ fronts → marks_of back m ≡ backs → marks_of made count ≡ on_marks fronts backs
  both front back made n m count fronts backs is few within front-is back-is =
      ap (marks_of made) few ∙ ap (λ words. marks_of words (min n m)) is ∙ by_words front back n m within ∙ (λ i. on_marks (front-is i) (back-is i))

-- ---- the places that have a mark

pub next_place : (test : ℕ → Bool) (n : ℕ) → filter test (range_with_len 0 (n + 1)) ≡ filter test (range_with_len 0 n) ++ cond (test n) (n ∷ []) []
next_place test n =
    let e : 0 + n ≡ n = omega arith in
    ap (filter test) (range_next 0 n ∙ ap (λ k. range_with_len 0 n ++ k ∷ []) e) ∙ filter-append test (range_with_len 0 n) (n ∷ [])

-- places that aren't marked are passed over
pub passed_over : (test : ℕ → Bool) (n more : ℕ) → ((i : ℕ) → n ≤ i → i < n + more → test i ≡ false) → filter test (range_with_len 0 (n + more)) ≡ filter test (range_with_len 0 n)
passed_over test n zero none = let e : n + zero ≡ n = omega arith in ap (λ k. filter test (range_with_len 0 k)) e
passed_over test n (suc more) none =
    let e : n + suc more ≡ n + more + 1 = omega arith in
    ap (λ k. filter test (range_with_len 0 k)) e ∙ next_place test (n + more)
    ∙ ap (λ b. filter test (range_with_len 0 (n + more)) ++ cond b ((n + more) ∷ []) []) (none (n + more) (omega arith) (omega arith))
    ∙ append-nil (filter test (range_with_len 0 (n + more)))
    ∙ passed_over test n more (λ i from low. none i from (omega (arith, low)))

-- a place later in the same word, as its bits from the first one on tell
pub bit_from : (words : List ℕ) (place i : ℕ) → place ≤ i → i < place + (64 - place % 64) → bit_at (get_or words (place / 64) 0 / 2 ^ (place % 64)) (i - place) ≡ 0 → mark_at words i ≡ false
bit_from words place i from low none =
    let word : i / 64 ≡ place / 64 = omega (arith, from, low) in
    let bit : i % 64 ≡ place % 64 + (i - place) = omega (arith, from, low) in
    ap (λ n. has_bit (get_or words n 0) (i % 64)) word ∙ ap (has_bit (get_or words (place / 64) 0)) bit
    ∙ has_bit_is (get_or words (place / 64) 0) (place % 64 + (i - place))
    ∙ ap (λ n. is_set (n % 2)) (sym (shr-shr (get_or words (place / 64) 0) (place % 64) (i - place)))
    ∙ ap is_set none

-- the places are those of the marks
pub places_are : (words : List ℕ) (count : ℕ) → filter (mark_at words) (range_with_len 0 count) ≡ places (marks_of words count)
places_are words count =
    same_filter (mark_at words) (λ i. get_or (marks_of words count) i false) (range_with_len 0 count) (λ i in'. sym (marked_below words count i false (range_member count i in')))
    ∙ sym (ap (λ n. filter (λ i. get_or (marks_of words count) i false) (range_with_len 0 n)) (count_is words count))
