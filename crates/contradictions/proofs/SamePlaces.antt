-- Tests that tell equality, images of what stands at places, and loops that ask whether all items pass.
use Rattle.std.proofs.Common.{◌≡◌, ℕ, zero, suc, ◌+◌, ◌<◌, Bool, true, false, ◌&&◌, List, [], ◌∷◌, map, length, get_or, drop, inl, inr, refl, sym, ap, ◌∙◌, subst, arith}
use Rattle.std.specs.Cmp.{nat_eq_equiv}
use Rattle.std.specs.List.{list_all, zip}
use Rattle.std.specs.Cmp.Lexicographic.{pointwise, pointwise_decides}
use Rattle.std.proofs.lemmas.Bool.{true≢false, eqb-true}
use Rattle.std.proofs.Math.Seq.{drop-cons}
use Rattle.lists.proofs.Items.{Among}
use Rattle.normal_task.specs.declared.task.Place.{Place}
use Rattle.normal_task.specs.declared.task.Place.TheVariants.{Variable, Object}
use Rattle.contradictions.specs.Candidates.{at_positions}
use Rattle.contradictions.specs.Contradictory.{is_same_place}

-- ---- tests of equality

pub same_place : (x y : Place) → is_same_place x y ≡ true → x ≡ y
same_place (Variable m) (Variable n) is = ap (λ (k : ℕ). Variable k) (eqb-true m n is)
same_place (Variable m) (Object o) is = absurd (true≢false (sym is))
same_place (Object o) (Variable n) is = absurd (true≢false (sym is))
same_place (Object o) (Object p) is = ap (λ (k : ℕ). Object k) (eqb-true o p is)

pub place_itself : (x : Place) → is_same_place x x ≡ true
place_itself (Variable n) = nat_eq_equiv.refl n
place_itself (Object o) = nat_eq_equiv.refl o

pub same_places : (xs ys : List Place) → pointwise is_same_place xs ys ≡ true → xs ≡ ys
same_places xs ys is = (pointwise_decides (λ x y. (same_place x y, λ e. subst (λ z. is_same_place x z ≡ true) e (place_itself x))) xs ys).0 is

-- ---- images

pub get_or_map : {X Y : Type 0} (f : X → Y) (xs : List X) (n : ℕ) (d : X) → f (get_or xs n d) ≡ get_or (map f xs) n (f d)
get_or_map f [] n d = refl
get_or_map f (x ∷ xs) zero d = refl
get_or_map f (x ∷ xs) (suc n) d = get_or_map f xs n d

pub at_positions-map : {X Y : Type 0} (f : X → Y) (other : X) (positions : List ℕ) (items : List X) → map f (at_positions other positions items) ≡ at_positions (f other) positions (map f items)
at_positions-map f other [] items = refl
at_positions-map f other (position ∷ positions) items =
    ap (λ y. y ∷ map f (at_positions other positions items)) (get_or_map f items position other)
    ∙ ap (λ ys. get_or (map f items) position (f other) ∷ ys) (at_positions-map f other positions items)

-- pairs of equal images
pub zip_equal : {X : Type 0} (f : X → ℕ) (xs ys : List X) → map f xs ≡ map f ys → (pair : X × X) → Among pair (zip xs ys) → f pair.0 ≡ f pair.1
zip_equal f [] ys same pair none = absurd none
zip_equal f (x ∷ xs) [] same pair none = absurd none
zip_equal {X = X} f (x ∷ xs) (y ∷ ys) same pair (inl here) =
    let head : f x ≡ f y = cc same in
    sym (ap (λ (p : X × X). f p.0) here) ∙ head ∙ ap (λ (p : X × X). f p.1) here
zip_equal f (x ∷ xs) (y ∷ ys) same pair (inr there) =
    let rest : map f xs ≡ map f ys = cc same in
    zip_equal f xs ys rest pair there

-- ---- one turn of a loop that asks whether all items pass

module _ {X : Type 0} (test : X → Bool) (xs items : List X) (same : items ≡ xs) (i : ℕ) (x : X) (within : i < length items) (is : x ≡ get_or items i x) (held : list_all test xs ≡ list_all test (drop i xs)) where
  all-here : list_all test xs ≡ (test x && list_all test (drop (i + 1) xs))
  all-here =
      let step : suc i ≡ i + 1 = omega arith in
      held ∙ ap (λ l. list_all test (drop i l)) (sym same) ∙ ap (list_all test) (drop-cons items i x within) ∙ ap (λ y. test y && list_all test (drop (suc i) items)) (sym is)
      ∙ ap (λ n. test x && list_all test (drop n items)) step ∙ ap (λ l. test x && list_all test (drop (i + 1) l)) same

  pub all_goes_on : test x ≡ true → list_all test xs ≡ list_all test (drop (i + 1) xs)
  all_goes_on passes = all-here ∙ ap (λ b. b && list_all test (drop (i + 1) xs)) passes

  pub all_stops : test x ≡ false → false ≡ list_all test xs
  all_stops fails = sym (all-here ∙ ap (λ b. b && list_all test (drop (i + 1) xs)) fails)
