-- Choices of one item from each of several lists.
use Rattle.std.specs.Prelude.{List, [], ◌∷◌, map}
use Rattle.std.specs.List.{flat_map}

-- every list with one item of each list
abbrev pub choices : {A : Type 0} → List (List A) → List (List A)
choices [] = [] ∷ []
choices (items ∷ more) = flat_map (λ item. map (λ others. item ∷ others) (choices more)) items
