-- The number that digits write, unless it is too large.
use Rattle.std.proofs.Common.{◌≡◌, ℕ, ◌<◌, ◌≤◌, List, None, refl, arith}
use Rattle.std.proofs.lemmas.Bool.{lt-leb}
use Rattle.lists.specs.Digits.{value_of}
use Rattle.lists.proofs.Digits.{IsReadTo, read_grows}
use Rattle.pddl_syntax.specs.Words.{number_of, largest}

-- the digits before a place write a number that isn't too large
pub record ReadTo (digits : List ℕ) (place number : ℕ) : Type 0 where
  pub rest : IsReadTo digits place number
  pub small : number ≤ largest

-- a digit after which the number is too large
pub too_large : (digits : List ℕ) (place number : ℕ) → IsReadTo digits place number → largest < number → number_of digits ≡ None
too_large digits place number read large =
    let grown = read_grows digits place number read in
    rw (lt-leb (value_of digits) largest (omega arith)) refl
