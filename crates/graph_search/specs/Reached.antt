-- What the arcs of a graph whose nodes are numbers lead to.
use Rattle.std.specs.Prelude.{ℕ, ◌<◌, List, All, Contains}
use Rattle.std.specs.List.Sorted.{IsStrictlyIncreasing}
use Rattle.names.specs.declared.arcs.Arc.{Arc}

-- what chains of arcs lead to from one of the starts
pub data IsReached (starts : List ℕ) (arcs : List Arc) : ℕ → Type 0 where
  First : (start : ℕ) → Contains starts start → IsReached starts arcs start
  Next : (arc : Arc) → IsReached starts arcs arc.from → Contains arcs arc → IsReached starts arcs arc.to

-- where the starts and the ends of all arcs are below the count, these are the numbers that are reached, in order
pub record AreReached (count : ℕ) (starts : List ℕ) (arcs : List Arc) (numbers : List ℕ) : Type 0 where
  pub sorted : IsStrictlyIncreasing numbers
  pub only : (number : ℕ) → Contains numbers number → IsReached starts arcs number
  pub each : All (λ start. start < count) starts → All (λ arc. arc.to < count) arcs → (number : ℕ) → IsReached starts arcs number → Contains numbers number
