-- Being in one class is the closure of the pairs.
use Rattle.std.proofs.Common.{◌≡◌, true, ◌&&◌, ◌||◌, List, [], ◌∷◌, ◌⊎◌, inl, inr, refl, subst}
use Rattle.std.proofs.lemmas.Bool.{and_parts, and_from, or_cases, or_left, or_right}
use Rattle.lists.proofs.Items.{Among, among_contains, contains_among}
use Rattle.normal_task.specs.declared.task.Place.{Place}
use Rattle.contradictions.specs.Contradictory.{is_same_place, in_one_class}
use Rattle.contradictions.specs.Closure.{IsSameness, IsClosure}
use Rattle.contradictions.proofs.SamePlaces.{same_place, place_itself}

-- the three ways to be in one class
abbrev pub Ways : (Place × Place) → List (Place × Place) → Place → Place → Type 0
Ways pair more x y =
    (in_one_class more x y ≡ true)
    ⊎ (((in_one_class more x pair.0 ≡ true) × (in_one_class more pair.1 y ≡ true))
    ⊎ ((in_one_class more x pair.1 ≡ true) × (in_one_class more pair.0 y ≡ true)))

pub ways : (pair : Place × Place) (more : List (Place × Place)) (x y : Place) → in_one_class (pair ∷ more) x y ≡ true → Ways pair more x y
ways pair more x y is =
    elim (or_cases (in_one_class more x y || in_one_class more x pair.0 && in_one_class more pair.1 y) (in_one_class more x pair.1 && in_one_class more pair.0 y) is) [
      | inl early ↦
          elim (or_cases (in_one_class more x y) (in_one_class more x pair.0 && in_one_class more pair.1 y) early) [
            | inl before ↦ inl before
            | inr linked ↦ inr (inl (and_parts (in_one_class more x pair.0) (in_one_class more pair.1 y) linked))
          ]
      | inr linked ↦ inr (inr (and_parts (in_one_class more x pair.1) (in_one_class more pair.0 y) linked))
    ]

pub from_ways : (pair : Place × Place) (more : List (Place × Place)) (x y : Place) → Ways pair more x y → in_one_class (pair ∷ more) x y ≡ true
from_ways pair more x y (inl before) =
    or_left (in_one_class more x y || in_one_class more x pair.0 && in_one_class more pair.1 y) (in_one_class more x pair.1 && in_one_class more pair.0 y)
    (or_left (in_one_class more x y) (in_one_class more x pair.0 && in_one_class more pair.1 y) before)
from_ways pair more x y (inr (inl linked)) =
    or_left (in_one_class more x y || in_one_class more x pair.0 && in_one_class more pair.1 y) (in_one_class more x pair.1 && in_one_class more pair.0 y)
    (or_right (in_one_class more x y) (in_one_class more x pair.0 && in_one_class more pair.1 y) (and_from (in_one_class more x pair.0) (in_one_class more pair.1 y) linked.0 linked.1))
from_ways pair more x y (inr (inr linked)) =
    or_right (in_one_class more x y || in_one_class more x pair.0 && in_one_class more pair.1 y) (in_one_class more x pair.1 && in_one_class more pair.0 y)
    (and_from (in_one_class more x pair.1) (in_one_class more pair.0 y) linked.0 linked.1)

module _ (pair : Place × Place) (more : List (Place × Place)) (same : IsSameness (λ x y. in_one_class more x y ≡ true)) where
  turn : (x y : Place) → Ways pair more x y → Ways pair more y x
  turn x y (inl before) = inl (same.turned x y before)
  turn x y (inr (inl linked)) = inr (inr (same.turned pair.1 y linked.1, same.turned x pair.0 linked.0))
  turn x y (inr (inr linked)) = inr (inl (same.turned pair.0 y linked.1, same.turned x pair.1 linked.0))

  chain : (x y z : Place) → Ways pair more x y → Ways pair more y z → Ways pair more x z
  chain x y z (inl a) (inl b) = inl (same.through x y z a b)
  chain x y z (inl a) (inr (inl b)) = inr (inl (same.through x y pair.0 a b.0, b.1))
  chain x y z (inl a) (inr (inr b)) = inr (inr (same.through x y pair.1 a b.0, b.1))
  chain x y z (inr (inl a)) (inl b) = inr (inl (a.0, same.through pair.1 y z a.1 b))
  chain x y z (inr (inl a)) (inr (inl b)) = inr (inl (a.0, b.1))
  chain x y z (inr (inl a)) (inr (inr b)) = inl (same.through x pair.0 z a.0 b.1)
  chain x y z (inr (inr a)) (inl b) = inr (inr (a.0, same.through pair.0 y z a.1 b))
  chain x y z (inr (inr a)) (inr (inl b)) = inl (same.through x pair.1 z a.0 b.1)
  chain x y z (inr (inr a)) (inr (inr b)) = inr (inr (a.0, b.1))

pub sameness : (pairs : List (Place × Place)) → IsSameness (λ x y. in_one_class pairs x y ≡ true)
sameness [] = record {
  itself = place_itself;
  turned = λ x y is. subst (λ z. is_same_place z x ≡ true) (same_place x y is) (place_itself x);
  through = λ x y z one other. subst (λ w. is_same_place x w ≡ true) (same_place y z other) one;
}
sameness (pair ∷ more) = record {
  itself = λ x. from_ways pair more x x (inl ((sameness more).itself x));
  turned = λ x y is. from_ways pair more y x (turn pair more (sameness more) x y (ways pair more x y is));
  through = λ x y z one other. from_ways pair more x z (chain pair more (sameness more) x y z (ways pair more x y one) (ways pair more y z other));
}

pub has_pairs : (pairs : List (Place × Place)) (pair : Place × Place) → Among pair pairs → in_one_class pairs pair.0 pair.1 ≡ true
has_pairs [] pair none = absurd none
has_pairs (first ∷ more) pair (inl here) =
    subst (λ (p : Place × Place). in_one_class (first ∷ more) p.0 p.1 ≡ true) here
    (from_ways first more first.0 first.1 (inr (inl ((sameness more).itself first.0, (sameness more).itself first.1))))
has_pairs (first ∷ more) pair (inr there) = from_ways first more pair.0 pair.1 (inl (has_pairs more pair there))

pub least : (pairs : List (Place × Place)) (R : Place → Place → Type 0) → IsSameness R → ((pair : Place × Place) → Among pair pairs → R pair.0 pair.1) → (x y : Place) → in_one_class pairs x y ≡ true → R x y
least [] R same has x y is = subst (λ z. R x z) (same_place x y is) (same.itself x)
least (pair ∷ more) R same has x y is = by (least more R same (λ p there. has p (inr there))) (ways pair more x y is)
  where
    by : ((x y : Place) → in_one_class more x y ≡ true → R x y) → Ways pair more x y → R x y
    by rest (inl before) = rest x y before
    by rest (inr (inl linked)) = same.through x pair.0 y (rest x pair.0 linked.0) (same.through pair.0 pair.1 y (has pair (inl refl)) (rest pair.1 y linked.1))
    by rest (inr (inr linked)) = same.through x pair.1 y (rest x pair.1 linked.0) (same.through pair.1 pair.0 y (same.turned pair.0 pair.1 (has pair (inl refl))) (rest pair.0 y linked.1))

pub classes_are_closures : (pairs : List (Place × Place)) → IsClosure pairs
classes_are_closures pairs = record {
  sameness = sameness pairs;
  has_pairs = λ pair there. has_pairs pairs pair (among_contains pairs pair there);
  least = λ R same has. least pairs (λ x y. R x y ≡ true) same (λ pair there. has pair (contains_among pairs pair there));
}
