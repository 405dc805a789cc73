-- Names, as the two files have them.
use Rattle.std.specs.Prelude.{ℕ, Bool, List, nat_eq}
use Rattle.std.specs.Cmp.Lexicographic.{pointwise}

-- a name, as its bytes
abbrev pub Name : Type 0
Name = List ℕ

-- the names are the same
abbrev pub is_same : Name → Name → Bool
is_same = pointwise nat_eq
