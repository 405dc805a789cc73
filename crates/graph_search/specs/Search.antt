-- The search for the numbers that arcs lead to. Words of private contracts: no public clause cites them.
use Rattle.std.specs.Prelude.{ℕ, Bool, true, ◌==◌, List, [], ◌∷◌, ◌++◌, filter, length, slice_index_or, slice_set, if◌then◌else◌}
use Rattle.std.specs.List.{flat_map, range_with_len}
use Rattle.names.specs.declared.arcs.Arc.{Arc}

-- the numbers that arcs lead to from one
abbrev pub leads_to : List Arc → ℕ → List ℕ
leads_to arcs number = flat_map (λ arc. if arc.from == number then arc.to ∷ [] else []) arcs

-- the numbers that are found, in the order in which they were found, with a mark for each of the numbers that have a place
pub record Finds : Type 0 where
  pub marks : List Bool
  pub numbers : List ℕ

-- whether the number has a mark, or no place
abbrev pub is_marked : List Bool → ℕ → Bool
is_marked marks number = slice_index_or marks number true

-- the numbers that have a mark, in order
abbrev pub marked : List Bool → List ℕ
marked marks = filter (is_marked marks) (range_with_len 0 (length marks))

-- whether the number is found, or has no place
abbrev pub has : Finds → ℕ → Bool
has found = is_marked found.marks

-- one number more, if it isn't there and has a place
abbrev pub with_number : Finds → ℕ → Finds
with_number found number = if has found number then found else record { marks = slice_set found.marks number true; numbers = found.numbers ++ number ∷ [] }
