-- Marks as the bits of words, sixty-four to a word. Words of private contracts: no public clause cites them.
use Rattle.std.specs.Prelude.{ℕ, ◌/◌, ◌%◌, ◌^◌, ◌==◌, not, Bool, List, map, bit_and, bit_or, bit_xor, length, slice_index, slice_set}
use Rattle.std.specs.List.{range_with_len}

abbrev pub has_bit : ℕ → ℕ → Bool
has_bit word bit = not (bit_and word (2 ^ bit) == 0)

-- the mark at a place
abbrev pub mark_at : List ℕ → ℕ → Bool
mark_at words place = has_bit (slice_index words (place / 64)) (place % 64)

-- so many marks
abbrev pub marks_of : List ℕ → ℕ → List Bool
marks_of words count = map (mark_at words) (range_with_len 0 count)

-- with the mark at a place
abbrev pub with_bit : List ℕ → ℕ → List ℕ
with_bit words place = slice_set words (place / 64) (bit_or (slice_index words (place / 64)) (2 ^ (place % 64)))

-- the bits that two words have both, word by word
abbrev pub common_words : List ℕ → List ℕ → List ℕ
common_words front back = map (λ i. bit_and (slice_index front i) (slice_index back i)) (range_with_len 0 (length front))

-- those of the first that the second hasn't
abbrev pub without_words : List ℕ → List ℕ → List ℕ
without_words front back = map (λ i. bit_xor (slice_index front i) (bit_and (slice_index front i) (slice_index back i))) (range_with_len 0 (length front))
