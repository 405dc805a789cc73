-- Lists of items that compare as what they are made of.
use Rattle.std.proofs.Common.{◌≡◌, Bool, true, false, cond, List, [], ◌∷◌, map, refl, ap, ◌∙◌}
use Rattle.std.specs.Ordering.{is_gt}
use Rattle.std.specs.declared.cmp.Ordering.{Ordering}
use Rattle.sas_task.specs.InOrder.{put_in, in_order}

-- items that compare as what they are made of stand in its order
module _ {X Y : Type 0} (f : X → Y) (cmp : X → X → Ordering) (cmp' : Y → Y → Ordering) (same : (a b : X) → cmp' (f a) (f b) ≡ cmp a b) where
  put_mapped : (x : X) (ys : List X) → put_in cmp' (f x) (map f ys) ≡ map f (put_in cmp x ys)
  put_mapped x [] = refl
  put_mapped x (y ∷ ys) =
      ap (λ b. cond b (f y ∷ put_in cmp' (f x) (map f ys)) (f x ∷ f y ∷ map f ys)) (ap is_gt (same x y)) ∙ by_test (put_mapped x ys) (is_gt (cmp x y))
    where
      by_test : put_in cmp' (f x) (map f ys) ≡ map f (put_in cmp x ys) → (b : Bool) → cond b (f y ∷ put_in cmp' (f x) (map f ys)) (f x ∷ f y ∷ map f ys) ≡ map f (cond b (y ∷ put_in cmp x ys) (x ∷ y ∷ ys))
      by_test rest true = ap (λ zs. f y ∷ zs) rest
      by_test rest false = refl

  pub order_mapped : (xs : List X) → in_order cmp' (map f xs) ≡ map f (in_order cmp xs)
  order_mapped [] = refl
  order_mapped (x ∷ xs) = ap (put_in cmp' (f x)) (order_mapped xs) ∙ put_mapped x (in_order cmp xs)
