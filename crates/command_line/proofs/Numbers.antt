-- What std's `parse` gives at a text of decimal digits.
use Rattle.std.proofs.Common.{◌≡◌, ◌<◌, ◌≤◌, ◌^◌, ◌&&◌, ℕ, List, Bool, true, false, None, Err, rules, refl, length, arith, nat_lt, nat_le}
use Rattle.std.specs.List.{list_all}
use Rattle.std.specs.Char.{is_ascii_digit}
use Rattle.std.specs.Str.Parse.{ParsesUnsigned, digits_value}
use Rattle.std.proofs.lemmas.Bool.{ltb-true, leb-true}
use Rattle.std.proofs.lemmas.Str.Parse.{IsNumeralModel, numerals_by_value, parse_digits}
use Rattle.command_line.specs.Accepted.{number_if, number_within}

digits : IsNumeralModel (λ ds. list_all is_ascii_digit ds ≡ true) (digits_value 10)
digits = numerals_by_value _ (search rules)

number_unread : (least most : ℕ) (text : List ℕ) → ¬ ((0 < length text) × (digits_value 10 text ≤ most)) → number_within least most text ≡ None
number_unread least most text unread = by_tests _ _ _ _ refl refl
  where
    by_tests : (some all large small : Bool) → nat_lt 0 (length text) ≡ some → nat_le (digits_value 10 text) most ≡ small
        → number_if (some && (all && (large && small))) (digits_value 10 text) ≡ None
    by_tests false all large small some_is small_is = refl
    by_tests true false large small some_is small_is = refl
    by_tests true true false small some_is small_is = refl
    by_tests true true true false some_is small_is = refl
    by_tests true true true true some_is small_is = absurd (unread (ltb-true _ _ some_is, leb-true _ _ small_is))

-- digits that are no number of 32 bits are none that is no more than `most`
pub too_large : {E : Type 0} (least most : ℕ) (text : List ℕ) (e : E) → ParsesUnsigned 32 10 text (Err e) → list_all is_ascii_digit text ≡ true
    → most < 2 ^ 32 → number_within least most text ≡ None
too_large least most text e parses all fits =
    let unread = parse_digits digits 32 text (Err e) parses all in
    number_unread least most text (λ small. unread (small.0, omega (arith, small.1, fits)))
