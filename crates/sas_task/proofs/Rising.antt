-- Lists in strict order: they are arranged as they stand.
use Rattle.std.proofs.Common.{◌≡◌, suc, ◌+◌, Bool, true, false, cond, List, [], ◌∷◌, length, get_or, refl, sym, ap, ◌∙◌, arith}
use Rattle.std.specs.List.{AllAdjacentBelow, dedup_from}
use Rattle.std.specs.Cmp.{IsTotalOrder}
use Rattle.std.specs.Ordering.{ordering_reverse, eq_by_cmp, is_eq, is_lt, is_gt}
use Rattle.std.specs.declared.cmp.Ordering.{Ordering}
use Rattle.std.specs.declared.cmp.Ordering.TheVariants.{Less, Equal, Greater}
use Rattle.std.proofs.lemmas.Bool.{false≢true}
use Rattle.sas_task.specs.InOrder.{put_in, in_order, each_once, arranged}

before : (o : Ordering) → true ≡ is_lt o → o ≡ Less
before Less e = refl
before Equal e = absurd (false≢true (sym e))
before Greater e = absurd (false≢true (sym e))

module _ {X : Type 0} (cmp : X → X → Ordering) where
  -- each item is before the next
  abbrev Rises : List X → Type 0
  Rises xs = AllAdjacentBelow (λ x y. true ≡ is_lt (cmp x y)) xs (length xs)

  behind : (x : X) (xs : List X) → Rises (x ∷ xs) → Rises xs
  behind x xs rises k d low =
      let more : suc k + 1 ≡ suc (k + 1) = omega arith in
      rises (suc k) d (omega (arith, low)) ∙ ap (λ n. is_lt (cmp (get_or xs k d) (get_or (x ∷ xs) n d))) more

  rising_in_order : (xs : List X) → Rises xs → in_order cmp xs ≡ xs
  rising_in_order [] rises = refl
  rising_in_order (x ∷ []) rises = refl
  rising_in_order (x ∷ y ∷ ys) rises =
      ap (put_in cmp x) (rising_in_order (y ∷ ys) (behind x (y ∷ ys) rises))
      ∙ ap (λ o. cond (is_gt o) (y ∷ put_in cmp x ys) (x ∷ y ∷ ys)) (before (cmp x y) (rises 0 x (omega arith)))

  rising_once : (total : IsTotalOrder cmp) (x : X) (xs : List X) → Rises (x ∷ xs) → dedup_from (eq_by_cmp cmp) x xs ≡ x ∷ xs
  rising_once total x [] rises = refl
  rising_once total x (y ∷ ys) rises =
      ap (λ o. cond (is_eq o) (dedup_from (eq_by_cmp cmp) x ys) (x ∷ dedup_from (eq_by_cmp cmp) y ys)) (total.antisymm y x ∙ ap ordering_reverse (before (cmp x y) (rises 0 x (omega arith))))
      ∙ ap (λ zs. x ∷ zs) (rising_once total y ys (behind x (y ∷ ys) rises))

  pub rising_arranged : (total : IsTotalOrder cmp) (once : Bool) (xs : List X) → Rises xs → arranged once cmp xs ≡ xs
  rising_arranged total false xs rises = rising_in_order xs rises
  rising_arranged total true [] rises = refl
  rising_arranged total true (x ∷ xs) rises = ap (each_once cmp) (rising_in_order (x ∷ xs) rises) ∙ rising_once total x xs rises
