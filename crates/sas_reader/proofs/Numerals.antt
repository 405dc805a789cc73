-- A word that is a number is its numeral, and the numeral of a number is that number.
use Rattle.std.proofs.Common.{◌≡◌, ℕ, zero, suc, ◌+◌, ◌-◌, ◌*◌, ◌^◌, ◌/◌, ◌%◌, ◌<◌, ◌≤◌, Bool, true, false, not, ◌&&◌, ◌||◌, cond, eqb, ltb, leb, List, [], ◌∷◌, ◌++◌, length, map, take, get_or, Some, None, inl, inr, refl, sym, ap, ◌∙◌, subst, arith}
use Rattle.std.specs.List.{list_all}
use Rattle.std.specs.Int.Digits.{digits_of, number_from_digits, number_from_digits_after, AllBelowBase}
use Rattle.std.proofs.lemmas.Bool.{cases_Bool, cases_lt, cases_eq, eq-eqb, ne_eqb, leb-true, lt-ltb, le-ltb, le-leb, and_parts, false≢true}
use Rattle.std.proofs.lemmas.Int.Digits.{digits_of_step, number_more, number_digits_of, first_digits_of, all_below_base_digits_of}
use Rattle.std.proofs.lemmas.List.{take_more, take_all, get_or-take, get_or_past, length-take, length-map}
use Rattle.std.proofs.lemmas.Nat.{div-mul-add, div-add-mod'}
use Rattle.sas_task.specs.Output.{Line, numeral}
use Rattle.lists.specs.Digits.{is_digit, value_after, value_of}
use Rattle.sas_reader.specs.Words.{is_decimal, below_limit, number}

numeral_is : (n : ℕ) → 0 < n → numeral n ≡ map (λ digit. 48 + digit) (digits_of 10 n)
numeral_is zero above = absurd (omega arith)
numeral_is (suc n) above = refl

-- the digits that bytes write
abbrev digits : Line → List ℕ
digits word = map (λ digit. digit - 48) word

value_is : (word : Line) (n : ℕ) → value_after n word ≡ number_from_digits_after 10 n (digits word)
value_is [] n = refl
value_is (digit ∷ word) n = value_is word (n * 10 + (digit - 48))

minus_digits : (ds : List ℕ) → digits (map (λ digit. 48 + digit) ds) ≡ ds
minus_digits [] = refl
minus_digits (d ∷ ds) = let first : 48 + d - 48 ≡ d = omega arith in λ i. first i ∷ minus_digits ds i

in_range : (b : ℕ) → is_digit b ≡ true → (48 ≤ b) × (b ≤ 57)
in_range b is = let parts = and_parts (leb 48 b) (leb b 57) is in (leb-true 48 b parts.0, leb-true b 57 parts.1)

plus_digits : (word : Line) → list_all is_digit word ≡ true → map (λ digit. 48 + digit) (digits word) ≡ word
plus_digits [] are = refl
plus_digits (b ∷ word) are =
    let parts = and_parts (is_digit b) (list_all is_digit word) are in
    let low : 48 ≤ b = (in_range b parts.0).0 in
    let first : 48 + (b - 48) ≡ b = omega (arith, low) in
    λ i. first i ∷ plus_digits word parts.1 i

abbrev Below : List ℕ → Type 0
Below ds = (i : ℕ) → get_or ds i 0 < 10

digits_below : (word : Line) → list_all is_digit word ≡ true → Below (digits word)
digits_below [] are i = omega arith
digits_below (b ∷ word) are zero =
    let parts = and_parts (is_digit b) (list_all is_digit word) are in
    let high : b ≤ 57 = (in_range b parts.0).1 in
    omega (arith, high)
digits_below (b ∷ word) are (suc i) = digits_below word (and_parts (is_digit b) (list_all is_digit word) are).1 i

below-take : (n : ℕ) (ds : List ℕ) → Below ds → Below (take n ds)
below-take n ds below i =
    elim (cases_lt i n) [
      | inl lt ↦ subst (λ d. d < 10) (sym (get_or-take n ds i 0 lt)) (below i)
      | inr le ↦ subst (λ d. d < 10) (sym (get_or_past (take n ds) i 0 (omega (arith, le, length-take n ds)))) (omega arith)
    ]

-- one more digit
one_more : (n : ℕ) (ds : List ℕ) → length ds ≡ suc n → Below ds → digits_of 10 (number_from_digits 10 (take n ds)) ≡ take n ds → 0 < number_from_digits 10 (take n ds) * 10 + get_or ds n 0 → digits_of 10 (number_from_digits 10 ds) ≡ ds
one_more n ds len below same some =
    let d = get_or ds n 0 in
    let v = number_from_digits 10 (take n ds) in
    let within : n < length ds = omega (arith, len) in
    let full : take (n + 1) ds ≡ ds = take_all (n + 1) ds (omega (arith, len)) in
    let whole : ds ≡ take n ds ++ d ∷ [] = sym full ∙ take_more ds n 0 within in
    let value : number_from_digits 10 ds ≡ v * 10 + d = ap (number_from_digits 10) (sym full) ∙ number_more 10 ds n within in
    let small : d < 10 = below n in
    let quotient : (v * 10 + d) / 10 ≡ v = div-mul-add v 10 d small in
    let both : (v * 10 + d) / 10 * 10 + (v * 10 + d) % 10 ≡ v * 10 + d = div-add-mod' (v * 10 + d) 10 in
    let remainder : (v * 10 + d) % 10 ≡ d = omega (arith, quotient, both) in
    ap (digits_of 10) value ∙ digits_of_step 10 (v * 10 + d) (omega arith) some ∙ (λ i. digits_of 10 (quotient i) ++ remainder i ∷ []) ∙ ap (λ l. l ++ d ∷ []) same ∙ sym whole

-- digits without a leading 0 are those of the number that they write
back : (n : ℕ) (ds : List ℕ) → length ds ≡ suc n → Below ds → 0 < get_or ds 0 0 → digits_of 10 (number_from_digits 10 ds) ≡ ds
back zero ds len below first = one_more 0 ds len below refl (omega (arith, first))
back (suc n) ds len below first =
    let shorter = take (suc n) ds in
    let short : length shorter ≡ suc n = omega (arith, length-take (suc n) ds, len) in
    let start : 0 < get_or shorter 0 0 = subst (λ d. 0 < d) (sym (get_or-take (suc n) ds 0 0 (omega arith))) first in
    let same = back n shorter short (below-take (suc n) ds below) start in
    let v = number_from_digits 10 shorter in
    elim (cases_eq v 0) [
      | inl none ↦
          let empty : 0 ≡ length shorter = ap (λ n. length (digits_of 10 n)) (sym none) ∙ ap length same in
          absurd (omega (arith, empty, short))
      | inr some ↦ one_more (suc n) ds len below same (omega (arith, some))
    ]

-- a word that is a number in decimal is the numeral of that number
pub decimal_numeral : (word : Line) → is_decimal word ≡ true → word ≡ numeral (value_of word)
decimal_numeral [] is = absurd (false≢true is)
decimal_numeral (b ∷ word) is =
    let whole = b ∷ word in
    let parts = and_parts (ltb 0 (length whole) && (eqb (length whole) 1 || not (eqb b 48))) (list_all is_digit whole) is in
    let zeros = (and_parts (ltb 0 (length whole)) (eqb (length whole) 1 || not (eqb b 48)) parts.0).1 in
    let low : 48 ≤ b = (in_range b (and_parts (is_digit b) (list_all is_digit word) parts.1).0).0 in
    elim (cases_eq b 48) [
      | inl zero-digit ↦ lone word zero-digit (sym (ap (λ t. eqb (length whole) 1 || not t) (eq-eqb b 48 zero-digit)) ∙ zeros)
      | inr other ↦
          let first : 0 < b - 48 = omega (arith, low, other) in
          let same = back (length word) (digits whole) (length-map whole (λ digit. digit - 48)) (digits_below whole parts.1) first in
          let value : value_of whole ≡ number_from_digits 10 (digits whole) = value_is whole 0 in
          elim (cases_eq (value_of whole) 0) [
            | inl none ↦
                let empty : 0 ≡ length (digits whole) = ap (λ n. length (digits_of 10 n)) (sym (sym value ∙ none)) ∙ ap length same in
                absurd (omega (arith, empty))
            | inr some ↦
                sym (numeral_is (value_of whole) (omega (arith, some)) ∙ ap (λ n. map (λ digit. 48 + digit) (digits_of 10 n)) value ∙ ap (map (λ digit. 48 + digit)) same ∙ plus_digits whole parts.1)
          ]
    ]
  where
    lone : (word : Line) → b ≡ 48 → (eqb (length (b ∷ word)) 1 || false) ≡ true → b ∷ word ≡ numeral (value_of (b ∷ word))
    lone [] is one = ap (λ c. c ∷ []) is ∙ ap (λ c. numeral (0 * 10 + (c - 48))) (sym is)
    lone (c ∷ word) is one =
        let several : eqb (length (b ∷ c ∷ word)) 1 ≡ false = ne_eqb (length (b ∷ c ∷ word)) 1 (λ e. absurd (omega (arith, e))) in
        absurd (false≢true (sym (ap (λ t. t || false) several) ∙ one))

-- a word that is a number is its numeral
pub number_numeral : (word : Line) (n : ℕ) → number word ≡ Some n → (word ≡ numeral n) × (n < 2 ^ 64)
number_numeral word n is =
    elim (cases_Bool (is_decimal word)) [
      | inl decimal ↦
          let limit : below_limit (value_of word) ≡ Some n = sym (ap (λ b. cond b (below_limit (value_of word)) None) decimal) ∙ is in
          elim (cases_lt (value_of word) (2 ^ 64)) [
            | inl small ↦
                let same : Some (value_of word) ≡ Some n = sym (ap (λ b. cond b (Some (value_of word)) None) (lt-ltb _ _ small)) ∙ limit in
                let e : value_of word ≡ n = cc in
                (decimal_numeral word decimal ∙ ap numeral e, omega (arith, small, e))
            | inr large ↦ let none : None ≡ Some n = sym (ap (λ b. cond b (Some (value_of word)) None) (le-ltb _ _ large)) ∙ limit in absurd cc
          ]
      | inr other ↦ let none : None ≡ Some n = sym (ap (λ b. cond b (below_limit (value_of word)) None) other) ∙ is in absurd cc
    ]

all_digits : (ds : List ℕ) → AllBelowBase 10 ds → list_all is_digit (map (λ digit. 48 + digit) ds) ≡ true
all_digits [] below = refl
all_digits (d ∷ ds) below =
    let low : leb 48 (48 + d) ≡ true = le-leb 48 (48 + d) (omega arith) in
    let high : leb (48 + d) 57 ≡ true = le-leb (48 + d) 57 (omega (arith, below.0)) in
    (λ i. (low i && high i) && all_digits ds below.1 i)

-- the numeral of a number below the limit is that number
pub numeral_number : (n : ℕ) → n < 2 ^ 64 → number (numeral n) ≡ Some n
numeral_number zero small = refl
numeral_number (suc n) small =
    let ds = digits_of 10 (suc n) in
    let word = map (λ digit. 48 + digit) ds in
    let first : 0 < get_or ds 0 0 = first_digits_of 10 (suc n) (omega arith) (omega arith) in
    let value : value_of word ≡ suc n = value_is word 0 ∙ ap (number_from_digits 10) (minus_digits ds) ∙ number_digits_of 10 (suc n) (omega arith) in
    let decimal : is_decimal word ≡ true = from ds first (all_digits ds (all_below_base_digits_of 10 (suc n) (omega arith))) in
    ap (λ b. cond b (below_limit (value_of word)) None) decimal ∙ ap below_limit value ∙ ap (λ b. cond b (Some (suc n)) None) (lt-ltb (suc n) (2 ^ 64) small)
  where
    either : (b : Bool) → (true && (b || true)) ≡ true
    either true = refl
    either false = refl

    from : (ds : List ℕ) → 0 < get_or ds 0 0 → list_all is_digit (map (λ digit. 48 + digit) ds) ≡ true → is_decimal (map (λ digit. 48 + digit) ds) ≡ true
    from [] first all = absurd (omega (arith, first))
    from (d ∷ ds) first all =
        let other : eqb (48 + d) 48 ≡ false = ne_eqb (48 + d) 48 (λ e. absurd (omega (arith, first, e))) in
        let some : ltb 0 (suc (length (map (λ digit. 48 + digit) ds))) ≡ true = lt-ltb 0 (suc (length (map (λ digit. 48 + digit) ds))) (omega arith) in
        (λ i. (some i && (eqb (suc (length (map (λ digit. 48 + digit) ds))) 1 || not (other i))) && all i) ∙ ap (λ b. b && true) (either (eqb (suc (length (map (λ digit. 48 + digit) ds))) 1))
