-- All variables in their order, with all values and all operators, meet the condition of the law.
use Rattle.std.proofs.Common.{◌≡◌, ◌≢◌, ℕ, ◌<◌, Bool, true, false, cond, List, [], ◌∷◌, length, refl, sym, subst, inl, inr}
use Rattle.std.specs.List.{Contains, All, AllPairs, range_with_len}
use Rattle.std.specs.Ordering.{is_gt}
use Rattle.std.specs.declared.cmp.Ordering.{Ordering}
use Rattle.std.proofs.lemmas.Option.{none-some}
use Rattle.std.proofs.lemmas.List.Kept.{AllPairs-cons}
use Rattle.sas_task.specs.Task.{Task}
use Rattle.sas_task.specs.Valid.{IsValid}
use Rattle.lists.proofs.Members.{no_member, member_first, member_later, member_range, range_member, all_from_members}
use Rattle.sas_task.specs.InOrder.{put_in, in_order}
use Rattle.lists.proofs.Ordered.{pairs_head, pairs_tail}
use Rattle.sas_task.proofs.InOrder.{put_member, ordered_member, member_ordered}
use Rattle.sas_restriction.specs.Choice.{IsChoice, is_shown}
use Rattle.sas_restriction.specs.MayStand.{MayStand, TellsAll}
use Rattle.sas_restriction.specs.Everything.{all_values, everything}
use Rattle.sas_restriction.specs.Reordered.{variable_cmp, variable_order}
use Rattle.sas_restriction.proofs.Numbers.{member_any}
use Rattle.sas_restriction.proofs.Closed.{has_always, sets_always}
use Rattle.sas_restriction.proofs.Told.{may_where_told}
use Rattle.sas_restriction.proofs.AllValues.{range_once, all_closed}
use Rattle.sas_restriction.proofs.Renumbered.{choice_of}

-- what holds of all pairs of a list, in both ways, holds of all pairs of the ordered list
module _ {X : Type 0} (cmp : X → X → Ordering) (R : X → X → Type 0) (turned : (x y : X) → R x y → R y x) where
  put_pairs : (x : X) (ys : List X) → ((y : X) → Contains ys y → R x y) → AllPairs R ys → AllPairs R (put_in cmp x ys)
  put_pairs x [] each all = AllPairs-cons R x [] (all_from_members (R x) [] (λ b in'. absurd (no_member b in'))) all
  put_pairs x (y ∷ ys) each all = by_test (put_pairs x ys (λ z in'. each z (member_later y z ys in')) (pairs_tail R y ys all)) (is_gt (cmp x y))
    where
      by_test : AllPairs R (put_in cmp x ys) → (b : Bool) → AllPairs R (cond b (y ∷ put_in cmp x ys) (x ∷ y ∷ ys))
      by_test rest true =
          AllPairs-cons R y (put_in cmp x ys) (all_from_members (R y) (put_in cmp x ys) (λ b in'.
          elim (put_member cmp x ys b in') [
            | inl same ↦ subst (R y) same (turned x y (each y (member_first y ys)))
            | inr later ↦ pairs_head R y ys all b later
          ])) rest
      by_test rest false = AllPairs-cons R x (y ∷ ys) (all_from_members (R x) (y ∷ ys) each) all

  ordered_pairs : (xs : List X) → AllPairs R xs → AllPairs R (in_order cmp xs)
  ordered_pairs [] all = all
  ordered_pairs (x ∷ xs) all = put_pairs x (in_order cmp xs) (λ y in'. pairs_head R x xs all y (ordered_member cmp xs y in')) (ordered_pairs xs (pairs_tail R x xs all))

module _ (T : Task) where
  pub below_count : (v : ℕ) → Contains (variable_order T) v → v < length T.variables
  below_count v in' = range_member (length T.variables) v (ordered_member (variable_cmp T) (range_with_len 0 (length T.variables)) v in')

  pub order_below : All (λ v. v < length T.variables) (variable_order T)
  order_below = all_from_members (λ v. v < length T.variables) (variable_order T) below_count

  pub order_has : (v : ℕ) → v < length T.variables → Contains (variable_order T) v
  order_has v below = member_ordered (variable_cmp T) (range_with_len 0 (length T.variables)) v (member_range (length T.variables) v below)

  pub shown : (v : ℕ) → v < length T.variables → is_shown (everything T (variable_order T)) v ≡ true
  shown v below = member_any v (variable_order T) (order_has v below)

  module _ (valid : IsValid T) where
    tells : TellsAll (everything T (variable_order T)) T
    tells v below = inl (shown v below)

    pub choice : IsChoice (everything T (variable_order T)) T
    choice = choice_of T valid (variable_order T) (λ o. true) order_below (ordered_pairs (variable_cmp T) (λ v w. v ≢ w) (λ v w no same. no (sym same)) (range_with_len 0 (length T.variables)) (range_once (length T.variables)))

    pub may : MayStand (everything T (variable_order T)) T
    may =
        may_where_told (everything T (variable_order T)) T valid tells
        (has_always T valid (λ v x. Contains (all_values T v) x) (all_closed T valid))
        (λ s reached o in-o stays. sets_always T valid (λ v x. Contains (all_values T v) x) (all_closed T valid) s reached o in-o)
        (λ start none. absurd (none-some start none))
        (λ s reached o t step busy. refl)
