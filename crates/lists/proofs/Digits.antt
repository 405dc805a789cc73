-- The number that digits write, digit by digit.
use Rattle.std.proofs.Common.{◌≡◌, ℕ, ◌+◌, ◌-◌, ◌*◌, ◌<◌, ◌≤◌, List, [], ◌∷◌, length, drop, slice_index, sym, ap, ◌∙◌, arith}
use Rattle.std.proofs.lemmas.List.{drop_more}
use Rattle.lists.specs.Digits.{value_after, value_of}

-- the digits from a place on, after the number that those before it write
abbrev pub IsReadTo : List ℕ → ℕ → ℕ → Type 0
IsReadTo digits place number = value_after number (drop place digits) ≡ value_of digits

-- more digits write no smaller number
pub value_grows : (digits : List ℕ) (number : ℕ) → number ≤ value_after number digits
value_grows [] number = omega arith
value_grows (digit ∷ more) number = omega (arith, value_grows more (number * 10 + (digit - 48)))

-- the number after one more digit
pub read_digit : (digits : List ℕ) (place number : ℕ) → place < length digits → IsReadTo digits place number → IsReadTo digits (place + 1) (number * 10 + (slice_index digits place - 48))
read_digit digits place number within read = ap (value_after number) (sym (drop_more digits place 0 within)) ∙ read

-- the whole number is no smaller than that of the digits before a place
pub read_grows : (digits : List ℕ) (place number : ℕ) → IsReadTo digits place number → number ≤ value_of digits
read_grows digits place number read = omega (arith, value_grows (drop place digits) number, read)
