-- Numbers and names as they are written.
use Rattle.std.specs.Prelude.{ℕ, ◌-◌, ◌^◌, Bool, not, ◌&&◌, ◌||◌, ◌==◌, nat_lt, nat_eq, length, take, codes, Option, Some, None, slice_index, if◌then◌else◌}
use Rattle.std.specs.List.{list_all}
use Rattle.std.specs.Cmp.Lexicographic.{pointwise}
use Rattle.std.specs.Option.{option_map}
use Rattle.sas_task.specs.Output.{Line}
pub use Rattle.lists.specs.Digits.{is_digit, value_of}

-- these bytes are those
abbrev pub is_same : Line → Line → Bool
is_same = pointwise nat_eq

-- digits, at least one, and the first isn't 0 where there are more
abbrev pub is_decimal : Line → Bool
is_decimal word = nat_lt 0 (length word) && ((length word == 1) || not (slice_index word 0 == 48)) && list_all is_digit word

-- a number is at most 18,446,744,073,709,551,615
abbrev pub below_limit : ℕ → Option ℕ
below_limit number = if nat_lt number (2 ^ 64) then Some number else None

-- the number that the word writes, in decimal and without leading zeros
abbrev pub number : Line → Option ℕ
number word = if is_decimal word then below_limit (value_of word) else None

-- the number that the word writes, or none where it is -1
abbrev pub number_or_none : Line → Option (Option ℕ)
number_or_none word = if is_same word (codes "-1") then Some None else option_map Some (number word)

-- a name has at least one byte, and no space at either end
abbrev pub is_name : Line → Bool
is_name bytes = nat_lt 0 (length bytes) && not (slice_index bytes 0 == 32) && not (slice_index bytes (length bytes - 1) == 32)

-- the bytes without one space at their end, if there is one
abbrev pub less_space : Line → Line
less_space bytes = if slice_index bytes (length bytes - 1) == 32 then take (length bytes - 1) bytes else bytes
