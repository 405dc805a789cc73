-- Membership as a test. As a statement it is std's `Contains`.
use Rattle.std.specs.Prelude.{Bool, List}
use Rattle.std.specs.List.{list_any}

-- some item of the list is this one, as the test of two items tells
abbrev pub is_among : {X : Type 0} → (X → X → Bool) → List X → X → Bool
is_among same items item = list_any (same item) items
