-- Lists by number, which grow at their ends.
use Rattle.std.specs.Prelude.{◌≡◌, ℕ, ◌<◌, List, [], ◌++◌, length, slice_index_or}

-- the list of a number
abbrev pub row_of : {X : Type 0} → List (List X) → ℕ → List X
row_of rows number = slice_index_or rows number []

-- each list has its piece more at its end
pub record Adds {X : Type 0} (piece : ℕ → List X) (old new : List (List X)) : Type 0 where
  pub count : length new ≡ length old
  pub row : (number : ℕ) → number < length old → row_of new number ≡ row_of old number ++ piece number
