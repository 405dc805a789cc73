-- Orders and tests that tell apart what is different.
use Rattle.std.proofs.Common.{◌≡◌, ℕ, ◌<◌, true, nat_eq, Option, Some, None, refl, ap}
use Rattle.std.specs.declared.cmp.Ordering.{Ordering}
use Rattle.std.specs.declared.cmp.Ordering.TheVariants.{Less, Equal, Greater}
use Rattle.std.specs.Option.{option_eq}
use Rattle.std.specs.Ordering.{MatchOrdering, nat_cmp, ordering_then}
use Rattle.std.proofs.lemmas.Bool.{eqb-true}
use Rattle.std.proofs.lemmas.Cmp.{ranked}

pub then_equal : (a b : Ordering) → ordering_then a b ≡ Equal → (a ≡ Equal) × (b ≡ Equal)
then_equal Less b e = (e, cc)
then_equal Equal b e = (refl, e)
then_equal Greater b e = (e, cc)

pub nat_exact : (x y : ℕ) → nat_cmp x y ≡ Equal → x ≡ y
nat_exact x y e = by_order (nat_cmp x y) (ranked x y (nat_cmp x y) refl) e
  where
    by_order : (o : Ordering) → MatchOrdering o (x < y) (x ≡ y) (y < x) → o ≡ Equal → x ≡ y
    by_order Less is e = cc
    by_order Equal is e = is
    by_order Greater is e = cc

pub same_option : (a b : Option ℕ) → option_eq nat_eq a b ≡ true → a ≡ b
same_option None None is = refl
same_option None (Some y) is = absurd cc
same_option (Some x) None is = absurd cc
same_option (Some x) (Some y) is = ap Some (eqb-true x y is)
