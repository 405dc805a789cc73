-- Names in texts of which each line is told apart.
use Rattle.std.specs.Prelude.{◌≡◌, ℕ, ◌-◌, Bool, true, not, ◌&&◌, ◌==◌, nat_lt, List, length, slice_index}
use Rattle.std.specs.List.{list_all}

-- at least one byte, no line feed, and no space at either end
abbrev pub is_name : List ℕ → Bool
is_name bytes = nat_lt 0 (length bytes) && list_all (λ byte. not (byte == 10)) bytes && not (slice_index bytes 0 == 32) && not (slice_index bytes (length bytes - 1) == 32)

-- the bytes are such a name
abbrev pub IsName : List ℕ → Type 0
IsName bytes = is_name bytes ≡ true
