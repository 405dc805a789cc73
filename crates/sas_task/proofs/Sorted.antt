-- Lists in order: a list in order has the members of the list, and without repeats it is strictly in order.
use Rattle.std.proofs.Common.{◌≡◌, ◌+◌, Bool, true, false, List, get_or, refl, sym, ap, subst, arith}
use Rattle.std.specs.List.{Contains, AllPairs}
use Rattle.std.specs.List.Sorted.{IsSorted}
use Rattle.std.specs.Cmp.{IsTotalOrder}
use Rattle.std.specs.Ordering.{ordering_reverse, eq_by_cmp, is_eq, is_lt, is_gt}
use Rattle.std.specs.declared.cmp.Ordering.{Ordering}
use Rattle.std.specs.declared.cmp.Ordering.TheVariants.{Less, Equal, Greater}
use Rattle.std.proofs.lemmas.Bool.{false≢true}
use Rattle.std.proofs.lemmas.List.Kept.{Any-dedup, Contains-from_dedup, IsStrictlySortedBy-dedup}
use Rattle.std.proofs.lemmas.Cmp.{eq_by_cmp_equiv}
use Rattle.lists.proofs.Ordered.{strictly_ordered}
use Rattle.sas_task.specs.InOrder.{in_order, sorted, arranged, TellsApart}
use Rattle.sas_task.proofs.InOrder.{ordered_member, member_ordered, ordered}

equal_is : (o : Ordering) → is_eq o ≡ true → o ≡ Equal
equal_is Less e = absurd cc
equal_is Equal e = refl
equal_is Greater e = absurd cc

not_behind : (o o' : Ordering) → o' ≡ ordering_reverse o → is_gt o ≡ false → is_lt o' ≡ false
not_behind Less o' e not = ap is_lt e
not_behind Equal o' e not = ap is_lt e
not_behind Greater o' e not = absurd (false≢true (sym not))

module _ {X : Type 0} (cmp : X → X → Ordering) (total : IsTotalOrder cmp) where
  -- members of a list in order
  pub sorted_member : (xs : List X) (z : X) → Contains (sorted cmp xs) z → Contains xs z
  sorted_member xs z in' = ordered_member cmp xs z (Contains-from_dedup (eq_by_cmp cmp) (in_order cmp xs) z in')

  pub member_sorted : (xs : List X) → TellsApart cmp xs → (z : X) → Contains xs z → Contains (sorted cmp xs) z
  member_sorted xs exact z in' =
      let any = Any-dedup (eq_by_cmp_equiv total) (in_order cmp xs) z (member_ordered cmp xs z in') in
      let there : Contains (sorted cmp xs) any.1 = (any.0, any.2, any.3) in
      let same : z ≡ any.1 = exact z any.1 in' (sorted_member xs any.1 there) (equal_is (cmp z any.1) any.4) in
      subst (λ w. Contains (sorted cmp xs) w) (sym same) there

  pub arranged_member : (once : Bool) (xs : List X) (z : X) → Contains (arranged once cmp xs) z → Contains xs z
  arranged_member true = sorted_member
  arranged_member false = ordered_member cmp

  pub member_arranged : (once : Bool) (xs : List X) → TellsApart cmp xs → (z : X) → Contains xs z → Contains (arranged once cmp xs) z
  member_arranged true xs exact = member_sorted xs exact
  member_arranged false xs exact = member_ordered cmp xs

  -- without repeats it is strictly in order
  pub sorted_ordered : (xs : List X) → AllPairs (λ a b. cmp a b ≡ Less) (sorted cmp xs)
  sorted_ordered xs = strictly_ordered cmp (sorted cmp xs) (IsStrictlySortedBy-dedup total (λ x y. refl) (in_order cmp xs) is-sorted)
    where
      is-sorted : IsSorted cmp (in_order cmp xs)
      is-sorted i d low high =
          not_behind (cmp (get_or (in_order cmp xs) i d) (get_or (in_order cmp xs) (i + 1) d)) (cmp (get_or (in_order cmp xs) (i + 1) d) (get_or (in_order cmp xs) i d)) (total.antisymm (get_or (in_order cmp xs) (i + 1) d) (get_or (in_order cmp xs) i d))
          (ordered cmp total xs i (i + 1) d (omega arith) high)
