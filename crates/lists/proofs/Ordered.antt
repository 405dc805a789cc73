-- Lists of which each item stands to each later one as it should: such a list is known by its members.
use Rattle.std.proofs.Common.{◌≡◌, ℕ, suc, ◌+◌, ◌<◌, List, [], ◌∷◌, length, refl, sym, ap, ◌∙◌, subst, inl, inr, arith}
use Rattle.std.specs.List.{Contains, AllPairs, range_with_len}
use Rattle.std.specs.List.Sorted.{IsStrictlySortedBy, IsStrictlyIncreasing}
use Rattle.std.specs.declared.cmp.Ordering.{Ordering}
use Rattle.std.specs.declared.cmp.Ordering.TheVariants.{Less}
use Rattle.std.proofs.lemmas.List.Kept.{AllPairs-cons}
use Rattle.std.proofs.lemmas.List.Elements.{All-from_recursion}
use Rattle.std.proofs.lemmas.List.FromFn.{length-range_with_len, get_or-range_with_len}
use Rattle.lists.proofs.Members.{no_member, member_first, member_later, member_cases}

-- what holds of all pairs, of the first item and each later one, and of the later ones
module _ {X : Type 0} (R : X → X → Type 0) where
  pub pairs_head : (x : X) (xs : List X) → AllPairs R (x ∷ xs) → (y : X) → Contains xs y → R x y
  pairs_head x xs all y in' =
      let below : suc in'.0 < length (x ∷ xs) = let b : in'.0 < length xs = in'.1 in omega arith in
      subst (R x) in'.2 (all 0 (suc in'.0) y (omega arith) below)

  pub pairs_tail : (x : X) (xs : List X) → AllPairs R (x ∷ xs) → AllPairs R xs
  pairs_tail x xs all i j d lt below = all (suc i) (suc j) d (omega arith) (omega arith)

  module _ (asym : (x y : X) → R x y → R y x → ⊥) where
    -- two ordered lists with the same members are one
    pub same_ordered : (xs ys : List X) → AllPairs R xs → AllPairs R ys → ((z : X) → Contains xs z → Contains ys z) → ((z : X) → Contains ys z → Contains xs z) → xs ≡ ys
    same_ordered [] [] px py to from = refl
    same_ordered [] (y ∷ ys) px py to from = absurd (no_member y (from y (member_first y ys)))
    same_ordered (x ∷ xs) [] px py to from = absurd (no_member x (to x (member_first x xs)))
    same_ordered (x ∷ xs) (y ∷ ys) px py to from =
        ap (λ z. z ∷ xs) first
        ∙ ap (λ zs. y ∷ zs) (same_ordered xs ys (pairs_tail x xs px) (pairs_tail y ys py)
        (λ z in'. elim (member_cases y z ys (to z (member_later x z xs in'))) [
          | inl same ↦ absurd (asym x x (subst (R x) (sym same ∙ sym first) (pairs_head x xs px z in')) (subst (R x) (sym same ∙ sym first) (pairs_head x xs px z in')))
          | inr later ↦ later
        ])
        (λ z in'. elim (member_cases x z xs (from z (member_later y z ys in'))) [
          | inl same ↦ absurd (asym y y (subst (R y) (sym same ∙ first) (pairs_head y ys py z in')) (subst (R y) (sym same ∙ first) (pairs_head y ys py z in')))
          | inr later ↦ later
        ]))
      where
        first : x ≡ y
        first =
            elim (member_cases y x ys (to x (member_first x xs))) [
              | inl same ↦ sym same
              | inr x-later ↦ elim (member_cases x y xs (from y (member_first y ys))) [
                | inl same ↦ same
                | inr y-later ↦ absurd (asym x y (pairs_head x xs px y y-later) (pairs_head y ys py x x-later))
              ]
            ]

-- a strictly sorted list
pub strictly_ordered : {X : Type 0} (cmp : X → X → Ordering) (xs : List X) → IsStrictlySortedBy cmp xs → AllPairs (λ a b. cmp a b ≡ Less) xs
unfolding IsStrictlySortedBy
strictly_ordered cmp [] strict = λ i j d lt below. absurd (omega arith)
strictly_ordered cmp (x ∷ xs) strict = AllPairs-cons (λ a b. cmp a b ≡ Less) x xs (All-from_recursion (λ y. cmp x y ≡ Less) xs strict.0) (strictly_ordered cmp xs strict.1)

-- the numbers below n rise
pub range_increasing : (n : ℕ) → IsStrictlyIncreasing (range_with_len 0 n)
range_increasing n k below =
    let in-range : k + 1 < n = subst (λ m. k + 1 < m) (length-range_with_len 0 n) below in
    let at = get_or-range_with_len 0 n k 0 (omega arith) in
    let next = get_or-range_with_len 0 n (k + 1) 0 in-range in
    omega (arith, at, next)
