-- Numbers that decimal digits write.
use Rattle.std.specs.Prelude.{ℕ, ◌+◌, ◌-◌, ◌*◌, Bool, ◌&&◌, nat_le, List, [], ◌∷◌}

abbrev pub is_digit : ℕ → Bool
is_digit byte = nat_le 48 byte && nat_le byte 57

-- the number that these digits write, after a number that the digits before them write
abbrev pub value_after : ℕ → List ℕ → ℕ
value_after before [] = before
value_after before (digit ∷ more) = value_after (before * 10 + (digit - 48)) more

-- the number that digits write
abbrev pub value_of : List ℕ → ℕ
value_of digits = value_after 0 digits
