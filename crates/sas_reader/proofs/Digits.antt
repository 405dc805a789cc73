-- The number that digits write, digit by digit.
use Rattle.std.proofs.Common.{◌≡◌, ℕ, ◌+◌, ◌-◌, ◌*◌, ◌^◌, ◌<◌, ◌≤◌, List, length, slice_index, cond, Some, None, refl, sym, ap, ◌∙◌, arith}
use Rattle.std.proofs.lemmas.List.{drop_all}
use Rattle.std.proofs.lemmas.Bool.{le-ltb, lt-ltb}
use Rattle.lists.specs.Digits.{value_after, value_of}
use Rattle.lists.proofs.Digits.{IsReadTo, read_digit, read_grows}
use Rattle.sas_reader.specs.Words.{below_limit}

-- a place before which the number is too large
pub too_large : (digits : List ℕ) (place number : ℕ) → IsReadTo digits place number → 2 ^ 64 ≤ number → below_limit (value_of digits) ≡ None
too_large digits place number read large =
    let grown : 2 ^ 64 ≤ value_of digits = omega (arith, read_grows digits place number read, large) in
    rw (le-ltb (value_of digits) (2 ^ 64) grown) refl

-- a number that ten times is too large
pub too_large_tenfold : (digits : List ℕ) (place number : ℕ) → place < length digits → IsReadTo digits place number → (number * 10 < 2 ^ 64 → ⊥) → below_limit (value_of digits) ≡ None
too_large_tenfold digits place number within read large =
    too_large digits (place + 1) _ (read_digit digits place number within read) (omega (arith, large))

-- a number that is too large with one more digit
pub too_large_digit : (digits : List ℕ) (place number : ℕ) → place < length digits → IsReadTo digits place number → (number * 10 + (slice_index digits place - 48) < 2 ^ 64 → ⊥) → below_limit (value_of digits) ≡ None
too_large_digit digits place number within read large =
    too_large digits (place + 1) _ (read_digit digits place number within read) (omega (arith, large))

-- the number of all digits
pub all_read : (digits : List ℕ) (place number : ℕ) → length digits ≤ place → IsReadTo digits place number → number < 2 ^ 64 → Some number ≡ below_limit (value_of digits)
all_read digits place number past read small =
    let is : number ≡ value_of digits = ap (value_after number) (sym (drop_all place digits past)) ∙ read in
    let below : value_of digits < 2 ^ 64 = omega (arith, is, small) in
    ap Some is ∙ sym (ap (λ b. cond b (Some (value_of digits)) None) (lt-ltb _ _ below))
