-- Objects that lists have in common: words of private contracts.
use Rattle.std.specs.Prelude.{◌≡◌, ℕ, ◌<◌, ◌≤◌, Bool, true, false, not, List, [], ◌∷◌, Option, Some, None}
use Rattle.std.specs.List.{list_all, list_any}
use Rattle.contradictions.specs.declared.common.Member.{Member}
use Rattle.contradictions.specs.declared.common.Member.TheVariants.{One, Many}
use Rattle.contradictions.specs.Contradictory.{is_among}

abbrev pub objects_in : Member → List ℕ
objects_in (One object) = object ∷ []
objects_in (Many rising) = rising.objects.now

-- some list doesn't have the object
abbrev pub is_missed : List (List ℕ) → ℕ → Bool
is_missed lists object = list_any (λ objects. not (is_among objects object)) lists

-- each list has the object
abbrev pub is_shared : List (List ℕ) → ℕ → Bool
is_shared lists object = list_all (λ objects. is_among objects object) lists

-- no object from the least on is in all lists, or none before the next one is, which is in all if it is the least itself
abbrev pub IsNextShared : List (List ℕ) → ℕ → Option ℕ → Type 0
IsNextShared lists least None = (object : ℕ) → least ≤ object → is_missed lists object ≡ true
IsNextShared lists least (Some next) =
    (least ≤ next) × ((object : ℕ) → least ≤ object → object < next → is_missed lists object ≡ true) × (next ≡ least → is_shared lists least ≡ true)

-- the answer to whether some object is in all lists
abbrev pub TellsShared : List (List ℕ) → Bool → Type 0
TellsShared lists true = (object : ℕ) × (is_shared lists object ≡ true)
TellsShared lists false = (object : ℕ) → is_missed lists object ≡ true
