-- Lists in order: an ordered list has the items of the list, and it is what a stable sort leaves.
use Rattle.std.proofs.Common.{◌≡◌, suc, Bool, true, false, not, ◌&&◌, cond, List, [], ◌∷◌, filter, length, drop, get_or, ◌⊎◌, refl, sym, ap, ◌∙◌, subst, inl, inr, arith}
use Rattle.std.specs.List.{Contains, AllPairs}
use Rattle.std.specs.List.Sorted.{IsSorted, IsStable, ties}
use Rattle.std.specs.Cmp.{IsTotalOrder}
use Rattle.std.specs.Ordering.{ordering_reverse, is_lt, is_gt}
use Rattle.std.specs.declared.cmp.Ordering.{Ordering}
use Rattle.std.specs.declared.cmp.Ordering.TheVariants.{Less, Equal, Greater}
use Rattle.std.proofs.lemmas.Bool.{false≢true}
use Rattle.std.proofs.lemmas.Cmp.{upto, tied_itself}
use Rattle.std.proofs.lemmas.List.Kept.{AllPairs-cons}
use Rattle.std.proofs.lemmas.List.Sorted.{sorted_far, ranks_by}
use Rattle.sas_task.specs.InOrder.{put_in, in_order}
use Rattle.lists.proofs.Items.{filter_yes, filter_no}
use Rattle.lists.proofs.Members.{no_member, member_first, member_later, member_cases, filter_member, all_from_members}
use Rattle.lists.proofs.Ordered.{pairs_head, pairs_tail}

module _ {X : Type 0} (cmp : X → X → Ordering) where
  -- members
  pub put_member : (x : X) (ys : List X) (z : X) → Contains (put_in cmp x ys) z → (x ≡ z) ⊎ Contains ys z
  put_member x [] z in' = member_cases x z [] in'
  put_member x (y ∷ ys) z in' = by_test (put_member x ys z) (is_gt (cmp x y)) in'
    where
      by_test : (Contains (put_in cmp x ys) z → (x ≡ z) ⊎ Contains ys z) → (b : Bool) → Contains (cond b (y ∷ put_in cmp x ys) (x ∷ y ∷ ys)) z → (x ≡ z) ⊎ Contains (y ∷ ys) z
      by_test rest true in' =
          elim (member_cases y z (put_in cmp x ys) in') [
            | inl same ↦ inr (subst (λ w. Contains (y ∷ ys) w) same (member_first y ys))
            | inr later ↦ elim (rest later) [ inl same ↦ inl same | inr there ↦ inr (member_later y z ys there) ]
          ]
      by_test rest false in' = member_cases x z (y ∷ ys) in'

  member_put : (x : X) (ys : List X) (z : X) → (x ≡ z) ⊎ Contains ys z → Contains (put_in cmp x ys) z
  member_put x [] z (inl same) = subst (λ w. Contains (x ∷ []) w) same (member_first x [])
  member_put x [] z (inr in') = absurd (no_member z in')
  member_put x (y ∷ ys) z is = by_test (member_put x ys z) (is_gt (cmp x y)) is
    where
      by_test : ((x ≡ z) ⊎ Contains ys z → Contains (put_in cmp x ys) z) → (b : Bool) → (x ≡ z) ⊎ Contains (y ∷ ys) z → Contains (cond b (y ∷ put_in cmp x ys) (x ∷ y ∷ ys)) z
      by_test rest true (inl same) = member_later y z (put_in cmp x ys) (rest (inl same))
      by_test rest true (inr in') =
          elim (member_cases y z ys in') [
            | inl same ↦ subst (λ w. Contains (y ∷ put_in cmp x ys) w) same (member_first y (put_in cmp x ys))
            | inr later ↦ member_later y z (put_in cmp x ys) (rest (inr later))
          ]
      by_test rest false (inl same) = subst (λ w. Contains (x ∷ y ∷ ys) w) same (member_first x (y ∷ ys))
      by_test rest false (inr in') = member_later x z (y ∷ ys) in'

  pub ordered_member : (xs : List X) (z : X) → Contains (in_order cmp xs) z → Contains xs z
  ordered_member [] z in' = in'
  ordered_member (x ∷ xs) z in' =
      elim (put_member x (in_order cmp xs) z in') [
        | inl same ↦ subst (λ w. Contains (x ∷ xs) w) same (member_first x xs)
        | inr later ↦ member_later x z xs (ordered_member xs z later)
      ]

  pub member_ordered : (xs : List X) (z : X) → Contains xs z → Contains (in_order cmp xs) z
  member_ordered [] z in' = in'
  member_ordered (x ∷ xs) z in' =
      elim (member_cases x z xs in') [
        | inl same ↦ member_put x (in_order cmp xs) z (inl same)
        | inr later ↦ member_put x (in_order cmp xs) z (inr (member_ordered xs z later))
      ]

-- the first isn't behind the second
abbrev pub NotAfter : {X : Type 0} → (X → X → Ordering) → X → X → Type 0
NotAfter cmp a b = is_gt (cmp a b) ≡ false

other_way : (o o' : Ordering) → o' ≡ ordering_reverse o → is_gt o ≡ true → is_gt o' ≡ false
other_way Less o' e gt = absurd (false≢true gt)
other_way Equal o' e gt = absurd (false≢true gt)
other_way Greater o' e gt = ap is_gt e

not_less : (o o' : Ordering) → o' ≡ ordering_reverse o → is_lt o ≡ false → is_gt o' ≡ false
not_less Less o' e not = absurd (false≢true (sym not))
not_less Equal o' e not = ap is_gt e
not_less Greater o' e not = ap is_gt e

both_not : (o o' : Ordering) → o' ≡ ordering_reverse o → is_gt o ≡ false → is_gt o' ≡ false → o ≡ Equal
both_not Less o' e a b = absurd (false≢true (sym b ∙ ap is_gt e))
both_not Equal o' e a b = refl
both_not Greater o' e a b = absurd (false≢true (sym a))

both_equal : (o o' : Ordering) → o' ≡ ordering_reverse o → not (is_lt o) && not (is_lt o') ≡ true → o ≡ Equal
both_equal Less o' e same = absurd (false≢true same)
both_equal Equal o' e same = refl
both_equal Greater o' e same = absurd (false≢true (ap (λ o. not (is_lt o)) (sym e) ∙ same))

module _ {X : Type 0} (cmp : X → X → Ordering) (total : IsTotalOrder cmp) where
  put_ordered : (x : X) (ys : List X) → AllPairs (NotAfter cmp) ys → AllPairs (NotAfter cmp) (put_in cmp x ys)
  put_ordered x [] all = AllPairs-cons (NotAfter cmp) x [] (all_from_members (NotAfter cmp x) [] (λ b in'. absurd (no_member b in'))) all
  put_ordered x (y ∷ ys) all = by_test (put_ordered x ys (pairs_tail (NotAfter cmp) y ys all)) (is_gt (cmp x y)) refl
    where
      by_test : AllPairs (NotAfter cmp) (put_in cmp x ys) → (b : Bool) → is_gt (cmp x y) ≡ b → AllPairs (NotAfter cmp) (cond b (y ∷ put_in cmp x ys) (x ∷ y ∷ ys))
      by_test rest true gt =
          AllPairs-cons (NotAfter cmp) y (put_in cmp x ys) (all_from_members (NotAfter cmp y) (put_in cmp x ys) (λ b in'.
          elim (put_member cmp x ys b in') [
            | inl same ↦ subst (NotAfter cmp y) same (other_way (cmp x y) (cmp y x) (total.antisymm y x) gt)
            | inr later ↦ pairs_head (NotAfter cmp) y ys all b later
          ])) rest
      by_test rest false gt =
          AllPairs-cons (NotAfter cmp) x (y ∷ ys) (all_from_members (NotAfter cmp x) (y ∷ ys) (λ b in'.
          elim (member_cases y b ys in') [
            | inl same ↦ subst (NotAfter cmp x) same gt
            | inr later ↦ upto total x y b gt (pairs_head (NotAfter cmp) y ys all b later)
          ])) all

  pub ordered : (xs : List X) → AllPairs (NotAfter cmp) (in_order cmp xs)
  ordered [] = λ i j d lt below. absurd (omega arith)
  ordered (x ∷ xs) = put_ordered x (in_order cmp xs) (ordered xs)

  -- the order doesn't tell the items apart
  abbrev tied : X → X → Bool
  tied = ties (λ a b. is_lt (cmp a b))

  tied_equal : (x y : X) → tied x y ≡ true → cmp x y ≡ Equal
  tied_equal x y same = both_equal (cmp x y) (cmp y x) (total.antisymm y x) same

  equal_tied : (x y : X) → cmp x y ≡ Equal → tied x y ≡ true
  equal_tied x y same = ap (λ o. not (is_lt o) && not (is_lt (cmp y x))) same ∙ ap (λ o. not (is_lt o)) (total.antisymm y x ∙ ap ordering_reverse same)

  greater_apart : (x y z : X) → cmp z x ≡ Equal → is_gt (cmp x y) ≡ true → tied z y ≡ false
  greater_apart x y z same gt = by_test (tied z y) refl
    where
      by_test : (b : Bool) → tied z y ≡ b → b ≡ false
      by_test true e = absurd (false≢true (ap is_gt (sym (tied_equal z y e) ∙ total.congr z x y same) ∙ gt))
      by_test false e = refl

  put_tied : (z x : X) (ys : List X) → tied z x ≡ true → filter (tied z) (put_in cmp x ys) ≡ x ∷ filter (tied z) ys
  put_tied z x [] same = filter_yes (tied z) x [] same
  put_tied z x (y ∷ ys) same = by_test (put_tied z x ys same) (is_gt (cmp x y)) refl
    where
      by_test : filter (tied z) (put_in cmp x ys) ≡ x ∷ filter (tied z) ys → (b : Bool) → is_gt (cmp x y) ≡ b → filter (tied z) (cond b (y ∷ put_in cmp x ys) (x ∷ y ∷ ys)) ≡ x ∷ filter (tied z) (y ∷ ys)
      by_test rest true gt =
          let apart = greater_apart x y z (tied_equal z x same) gt in
          filter_no (tied z) y (put_in cmp x ys) apart ∙ rest ∙ ap (λ zs. x ∷ zs) (sym (filter_no (tied z) y ys apart))
      by_test rest false gt = filter_yes (tied z) x (y ∷ ys) same

  put_apart : (z x : X) (ys : List X) → tied z x ≡ false → filter (tied z) (put_in cmp x ys) ≡ filter (tied z) ys
  put_apart z x [] other = filter_no (tied z) x [] other
  put_apart z x (y ∷ ys) other = by_test (put_apart z x ys other) (is_gt (cmp x y))
    where
      by_test : filter (tied z) (put_in cmp x ys) ≡ filter (tied z) ys → (b : Bool) → filter (tied z) (cond b (y ∷ put_in cmp x ys) (x ∷ y ∷ ys)) ≡ filter (tied z) (y ∷ ys)
      by_test rest true = ap (λ zs. cond (tied z y) (y ∷ zs) zs) rest
      by_test rest false = filter_no (tied z) x (y ∷ ys) other

  ordered_tied : (z : X) (xs : List X) → filter (tied z) (in_order cmp xs) ≡ filter (tied z) xs
  ordered_tied z [] = refl
  ordered_tied z (x ∷ xs) = by_test (ordered_tied z xs) (tied z x) refl
    where
      by_test : filter (tied z) (in_order cmp xs) ≡ filter (tied z) xs → (b : Bool) → tied z x ≡ b → filter (tied z) (put_in cmp x (in_order cmp xs)) ≡ cond b (x ∷ filter (tied z) xs) (filter (tied z) xs)
      by_test rest true e = put_tied z x (in_order cmp xs) e ∙ ap (λ zs. x ∷ zs) rest
      by_test rest false e = put_apart z x (in_order cmp xs) e ∙ rest

  -- two ordered lists are one where those that tie with an item are the same in both
  same_ordered : (xs ys : List X) → AllPairs (NotAfter cmp) xs → AllPairs (NotAfter cmp) ys → ((z : X) → filter (tied z) xs ≡ filter (tied z) ys) → xs ≡ ys
  same_ordered [] [] in-xs in-ys same = refl
  same_ordered [] (y ∷ ys) in-xs in-ys same =
      let e : [] ≡ y ∷ filter (tied y) ys = same y ∙ filter_yes (tied y) y ys (equal_tied y y (tied_itself total y)) in
      let n : 0 ≡ suc (length (filter (tied y) ys)) = ap length e in
      absurd (omega (arith, n))
  same_ordered (x ∷ xs) [] in-xs in-ys same =
      let e : x ∷ filter (tied x) xs ≡ [] = sym (filter_yes (tied x) x xs (equal_tied x x (tied_itself total x))) ∙ same x in
      let n : suc (length (filter (tied x) xs)) ≡ 0 = ap length e in
      absurd (omega (arith, n))
  same_ordered (x ∷ xs) (y ∷ ys) in-xs in-ys same =
      ap (λ z. z ∷ xs) first ∙ ap (λ zs. y ∷ zs) (same_ordered xs ys (pairs_tail (NotAfter cmp) x xs in-xs) (pairs_tail (NotAfter cmp) y ys in-ys) rest)
    where
      x-self : tied x x ≡ true
      x-self = equal_tied x x (tied_itself total x)

      y-self : tied y y ≡ true
      y-self = equal_tied y y (tied_itself total y)

      there : Contains (y ∷ ys) x
      there = (filter_member (tied x) (y ∷ ys) x (subst (λ zs. Contains zs x) (sym (filter_yes (tied x) x xs x-self) ∙ same x) (member_first x (filter (tied x) xs)))).0

      back : Contains (x ∷ xs) y
      back = (filter_member (tied y) (x ∷ xs) y (subst (λ zs. Contains zs y) (sym (filter_yes (tied y) y ys y-self) ∙ sym (same y)) (member_first y (filter (tied y) ys)))).0

      equal : cmp x y ≡ Equal
      equal =
          elim (member_cases y x ys there) [
            | inl one ↦ ap (λ z. cmp z y) (sym one) ∙ tied_itself total y
            | inr x-later ↦ elim (member_cases x y xs back) [
              | inl one ↦ ap (λ z. cmp x z) (sym one) ∙ tied_itself total x
              | inr y-later ↦ both_not (cmp x y) (cmp y x) (total.antisymm y x) (pairs_head (NotAfter cmp) x xs in-xs y y-later) (pairs_head (NotAfter cmp) y ys in-ys x x-later)
            ]
          ]

      first : x ≡ y
      first =
          ap (λ zs. get_or zs 0 x) (sym (filter_yes (tied x) x xs x-self) ∙ same x ∙ filter_yes (tied x) y ys (equal_tied x y equal))

      rest : (z : X) → filter (tied z) xs ≡ filter (tied z) ys
      rest z = by_test (tied z x) refl (tied z y) (ap (tied z) (sym first))
        where
          by_test : (b : Bool) → tied z x ≡ b → (c : Bool) → tied z y ≡ tied z x → filter (tied z) xs ≡ filter (tied z) ys
          by_test true e c f =
              ap (drop 1) (sym (filter_yes (tied z) x xs e) ∙ same z ∙ filter_yes (tied z) y ys (f ∙ e))
          by_test false e c f = sym (filter_no (tied z) x xs e) ∙ same z ∙ filter_no (tied z) y ys (f ∙ e)

  -- what a stable sort leaves
  pub sort_orders : (xs ys : List X) → IsSorted cmp ys → IsStable cmp xs ys → ys ≡ in_order cmp xs
  sort_orders xs ys sorted stable =
      same_ordered ys (in_order cmp xs)
      (λ i j d lt below. not_less (cmp (get_or ys j d) (get_or ys i d)) (cmp (get_or ys i d) (get_or ys j d)) (total.antisymm (get_or ys i d) (get_or ys j d)) (sorted_far (λ x y. is_lt (cmp x y)) (ranks_by total (λ x. x)) ys sorted i j d (omega arith) below))
      (ordered xs)
      (λ z. stable z ∙ sym (ordered_tied z xs))
