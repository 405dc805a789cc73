-- The first item of lists that are joined.
use Rattle.std.proofs.Common.{◌≡◌, ℕ, ◌+◌, ◌<◌, List, [], ◌∷◌, ◌++◌, Some, map, take, drop, length, get_or, sym, ap, ◌∙◌, append-nil}
use Rattle.std.specs.List.{flat_map}
use Rattle.std.proofs.lemmas.List.{take-append-drop, map-append}
use Rattle.std.proofs.lemmas.Grind.{flat_map-append}
use Rattle.lists.proofs.LoopSteps.{map_next}
use Rattle.normal_rows.specs.Costs.{first}

module _ {X Y : Type 0} (f : X → List Y) where
  abbrev joined : List X → List Y
  joined xs = flat_map (λ ys. ys) (map f xs)

  joined-append : (xs ys : List X) → joined (xs ++ ys) ≡ joined xs ++ joined ys
  joined-append xs ys = ap (flat_map (λ (l : List Y). l)) (map-append f xs ys) ∙ flat_map-append (λ (l : List Y). l) (map f xs) (map f ys)

  stays : (ys more : List Y) (y : Y) → Some y ≡ first ys → Some y ≡ first (ys ++ more)
  stays [] more y is = absurd (cc)
  stays (one ∷ ys) more y is = is

  pub first-found : (xs : List X) (i : ℕ) (x : X) → i < length xs → x ≡ get_or xs i x → joined (take i xs) ≡ [] → (y : Y) → Some y ≡ first (f x) → Some y ≡ first (joined xs)
  first-found xs i x within is none y found =
      let here : f x ++ joined (drop (i + 1) xs) ≡ joined xs =
      ap (λ (l : List Y). l ++ joined (drop (i + 1) xs)) (sym (
      ap (flat_map (λ (l : List Y). l)) (map_next xs i x within is f)
      ∙ flat_map-append (λ (l : List Y). l) (map f (take i xs)) (f x ∷ [])
      ∙ ap (λ (l : List Y). l ++ (f x ++ [])) none
      ∙ append-nil (f x)))
      ∙ sym (joined-append (take (i + 1) xs) (drop (i + 1) xs)) ∙ ap joined (take-append-drop (i + 1) xs) in
      stays (f x) (joined (drop (i + 1) xs)) y found ∙ ap first here
