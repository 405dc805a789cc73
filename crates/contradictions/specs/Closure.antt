-- Being in one class is an equivalence, and no more than what the pairs make one.
use Rattle.std.specs.Prelude.{◌≡◌, Bool, true, List, Contains}
use Rattle.normal_task.specs.declared.task.Place.{Place}
use Rattle.contradictions.specs.Contradictory.{in_one_class}

-- Being in one class is the least relation that has the pairs, and is reflexive, symmetric and transitive.
pub record IsSameness (R : Place → Place → Type 0) : Type 0 where
  pub itself : (x : Place) → R x x
  pub turned : (x y : Place) → R x y → R y x
  pub through : (x y z : Place) → R x y → R y z → R x z

abbrev pub HasPairs : List (Place × Place) → (Place → Place → Type 0) → Type 0
HasPairs pairs R = (pair : Place × Place) → Contains pairs pair → R pair.0 pair.1

pub record IsClosure (pairs : List (Place × Place)) : Type 0 where
  pub sameness : IsSameness (λ x y. in_one_class pairs x y ≡ true)
  pub has_pairs : HasPairs pairs (λ x y. in_one_class pairs x y ≡ true)
  pub least : (R : Place → Place → Bool) → IsSameness (λ x y. R x y ≡ true) → HasPairs pairs (λ x y. R x y ≡ true) → (x y : Place) → in_one_class pairs x y ≡ true → R x y ≡ true

abbrev pub ClassesAreClosures : Type 0
ClassesAreClosures = (pairs : List (Place × Place)) → IsClosure pairs
