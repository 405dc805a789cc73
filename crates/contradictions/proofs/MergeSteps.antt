-- One merge more tells one pair more.
use Rattle.std.proofs.Common.{◌≡◌, ℕ, suc, ◌+◌, ◌<◌, arith, get_or, length, take, take-suc, Bool, true, false, List, [], ◌∷◌, ◌++◌, map, inl, inr, refl, sym, ap, ◌∙◌, subst}
use Rattle.std.specs.Prelude.{if◌then◌else◌}
use Rattle.std.specs.Cmp.{both_ways}
use Rattle.std.proofs.lemmas.List.{map-append}
use Rattle.std.proofs.lemmas.List.Sums.{fold-append}
use Rattle.lists.proofs.Items.{Among, among_left, among_right, among_which}
use Rattle.normal_task.specs.declared.task.Literal.{Literal}
use Rattle.normal_task.specs.declared.task.Place.{Place}
use Rattle.contradictions.specs.declared.terms.TermPair.{TermPair}
use Rattle.contradictions.specs.Contradictory.{is_same_place, in_one_class, all_pairs}
use Rattle.contradictions.specs.Merges.{as_pair, led, leader, have_one_leader, merge_of, TellClasses}
use Rattle.contradictions.proofs.Closure.{Ways, ways, from_ways, sameness, has_pairs, least}
use Rattle.contradictions.proofs.SamePlaces.{same_place, place_itself}

-- the order of the pairs doesn't matter
pub same_members : (xs ys : List (Place × Place)) → ((p : Place × Place) → Among p xs → Among p ys) → (x y : Place) → in_one_class xs x y ≡ true → in_one_class ys x y ≡ true
same_members xs ys more x y is = least xs (λ x y. in_one_class ys x y ≡ true) (sameness ys) (λ p there. has_pairs ys p (more p there)) x y is

last-first : (pairs : List (Place × Place)) (pair : Place × Place) (x y : Place) → in_one_class (pair ∷ pairs) x y ≡ in_one_class (pairs ++ pair ∷ []) x y
last-first pairs pair x y =
    both_ways (in_one_class (pair ∷ pairs) x y) (in_one_class (pairs ++ pair ∷ []) x y)
    (same_members (pair ∷ pairs) (pairs ++ pair ∷ []) forth x y) (same_members (pairs ++ pair ∷ []) (pair ∷ pairs) back x y)
  where
    forth : (p : Place × Place) → Among p (pair ∷ pairs) → Among p (pairs ++ pair ∷ [])
    forth p (inl here) = among_right p pairs (pair ∷ []) (inl here)
    forth p (inr there) = among_left p pairs (pair ∷ []) there

    back : (p : Place × Place) → Among p (pairs ++ pair ∷ []) → Among p (pair ∷ pairs)
    back p there = elim (among_which p pairs (pair ∷ []) there) [ inl before ↦ inr before | inr (inl here) ↦ inl here | inr (inr none) ↦ absurd none ]

module _ (L : Place → Place) (pairs : List (Place × Place)) (tells : (x y : Place) → is_same_place (L x) (L y) ≡ in_one_class pairs x y) (left right : Place) where
  abbrev new : Place → Place
  new x = if is_same_place (L x) (L left) then L right else L x

  together : (x y : Place) → in_one_class pairs x y ≡ true → L x ≡ L y
  together x y is = same_place (L x) (L y) (tells x y ∙ is)

  apart : (x y : Place) → L x ≡ L y → in_one_class pairs x y ≡ true
  apart x y is = sym (tells x y) ∙ subst (λ z. is_same_place (L x) z ≡ true) is (place_itself (L x))

  new-joined : (x : Place) → L x ≡ L left → new x ≡ L right
  new-joined x is = ap (λ b. if b then L right else L x) (subst (λ z. is_same_place z (L left) ≡ true) (sym is) (place_itself (L left)))

  -- those of the right class stay there
  new-right : (x : Place) → L x ≡ L right → new x ≡ L right
  new-right x is = by (is_same_place (L x) (L left)) refl
    where
      by : (b : Bool) → is_same_place (L x) (L left) ≡ b → (if b then L right else L x) ≡ L right
      by true e = refl
      by false e = is

  forth : (x y : Place) → new x ≡ new y → Ways (left, right) pairs x y
  forth x y same = by (is_same_place (L x) (L left)) (is_same_place (L y) (L left)) refl refl same
    where
      by : (a b : Bool) → is_same_place (L x) (L left) ≡ a → is_same_place (L y) (L left) ≡ b → (if a then L right else L x) ≡ (if b then L right else L y) → Ways (left, right) pairs x y
      by true true e f same = inl (apart x y (same_place (L x) (L left) e ∙ sym (same_place (L y) (L left) f)))
      by true false e f same = inr (inl (sym (tells x left) ∙ e, apart right y same))
      by false true e f same = inr (inr (apart x right same, apart left y (sym (same_place (L y) (L left) f))))
      by false false e f same = inl (apart x y same)

  back : (x y : Place) → Ways (left, right) pairs x y → new x ≡ new y
  back x y (inl before) = ap (λ z. if is_same_place z (L left) then L right else z) (together x y before)
  back x y (inr (inl linked)) = new-joined x (together x left linked.0) ∙ sym (new-right y (sym (together right y linked.1)))
  back x y (inr (inr linked)) = new-right x (together x right linked.0) ∙ sym (new-joined y (sym (together left y linked.1)))

  pub one-more : (x y : Place) → is_same_place (new x) (new y) ≡ in_one_class (pairs ++ (left, right) ∷ []) x y
  one-more x y =
      both_ways (is_same_place (new x) (new y)) (in_one_class ((left, right) ∷ pairs) x y)
      (λ is. from_ways (left, right) pairs x y (forth x y (same_place (new x) (new y) is)))
      (λ is. subst (λ z. is_same_place (new x) z ≡ true) (back x y (ways (left, right) pairs x y is)) (place_itself (new x)))
      ∙ last-first pairs (left, right) x y

pub merge-more : (merges pairs : List TermPair) (pair : TermPair) → TellClasses merges pairs →
    TellClasses (merges ++ record { left = leader merges pair.left; right = leader merges pair.right } ∷ []) (pairs ++ pair ∷ [])
merge-more merges pairs pair tells x y =
    let merge : TermPair = record { left = leader merges pair.left; right = leader merges pair.right } in
    ap (λ z. is_same_place z (leader (merges ++ merge ∷ []) y)) (fold-append led x merges (merge ∷ []))
    ∙ ap (λ z. is_same_place (led (leader merges x) merge) z) (fold-append led y merges (merge ∷ []))
    ∙ one-more (leader merges) (map as_pair pairs) tells pair.left pair.right x y
    ∙ ap (λ ps. in_one_class ps x y) (sym (map-append as_pair pairs (pair ∷ [])))

pub merged-next : (pairs : List TermPair) (place : ℕ) (other : TermPair) → place < length pairs → (merges new : List TermPair) → TellClasses merges (take place pairs) →
    new ≡ merges ++ merge_of merges (get_or pairs place other) ∷ [] → TellClasses new (take (place + 1) pairs)
merged-next pairs place other within merges new tells made x y =
    let pair = get_or pairs place other in
    let next : take (place + 1) pairs ≡ take place pairs ++ pair ∷ [] =
    ap (λ n. take n pairs) (let one : place + 1 ≡ suc place = omega arith in one) ∙ take-suc pairs place other within in
    ap (λ m. have_one_leader m x y) made ∙ merge-more merges (take place pairs) pair tells x y ∙ ap (λ ps. in_one_class (map as_pair ps) x y) (sym next)

-- leaders tell what classes tell
pub told : (literals : List Literal) (equated pairs merges : List TermPair) → map as_pair pairs ≡ all_pairs literals (map as_pair equated) → TellClasses merges pairs →
    have_one_leader merges ≡ in_one_class (all_pairs literals (map as_pair equated))
told literals equated pairs merges made tells =
    let classes : have_one_leader merges ≡ in_one_class (map as_pair pairs) = λ i x y. tells x y i in
    classes ∙ ap in_one_class made
