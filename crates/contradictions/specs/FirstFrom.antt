-- The first object from a number on, in a list that rises: a word of private contracts.
use Rattle.std.specs.Prelude.{◌≡◌, ℕ, ◌<◌, ◌≤◌, true, List, Option, Some, None}
use Rattle.contradictions.specs.Contradictory.{is_among}

abbrev pub IsFirstFrom : List ℕ → ℕ → Option ℕ → Type 0
IsFirstFrom objects least None = (object : ℕ) → is_among objects object ≡ true → object < least
IsFirstFrom objects least (Some next) =
    (least ≤ next) × (is_among objects next ≡ true) × ((object : ℕ) → is_among objects object ≡ true → least ≤ object → next ≤ object)
