-- What holds of all pairs of a list, of a mapped list and of two members.
use Rattle.std.proofs.Common.{◌≡◌, ◌<◌, List, [], ◌∷◌, map, length, get_or, ◌⊎◌, sym, ap, ◌∙◌, subst, inl, inr, arith}
use Rattle.std.specs.List.{Contains, AllPairs}
use Rattle.std.proofs.lemmas.Bool.{cases_lt}
use Rattle.std.proofs.lemmas.List.{length-map, get_or-map, get_or_default}
use Rattle.std.proofs.lemmas.List.Elements.{Contains-get_or}

-- pairs of a mapped list, and of the list that is mapped
pub pairs_mapped : {X Y : Type 0} (R : X → X → Type 0) (S : Y → Y → Type 0) (f : X → Y) (xs : List X) → AllPairs R xs → ((x y : X) → Contains xs x → Contains xs y → R x y → S (f x) (f y)) → AllPairs S (map f xs)
pairs_mapped R S f [] all each i j d lt below = absurd (omega arith)
pairs_mapped R S f (x ∷ xs) all each i j d lt below =
    let below' : j < length (x ∷ xs) = subst (λ n. j < n) (length-map (x ∷ xs) f) below in
    let below-i : i < length (x ∷ xs) = omega arith in
    subst (λ a. S a (get_or (map f (x ∷ xs)) j d)) (sym (get_or-map f (x ∷ xs) i x d below-i))
    (subst (λ b. S (f (get_or (x ∷ xs) i x)) b) (sym (get_or-map f (x ∷ xs) j x d below'))
    (each (get_or (x ∷ xs) i x) (get_or (x ∷ xs) j x) (Contains-get_or (x ∷ xs) i x below-i) (Contains-get_or (x ∷ xs) j x below') (all i j x lt below')))

pub pairs_unmapped : {X Y : Type 0} (S : Y → Y → Type 0) (f : X → Y) (xs : List X) → AllPairs S (map f xs) → AllPairs (λ x y. S (f x) (f y)) xs
pairs_unmapped S f xs all i j d lt below =
    let below' : j < length (map f xs) = subst (λ n. j < n) (sym (length-map xs f)) below in
    let below-i : i < length xs = omega arith in
    subst (λ a. S a (f (get_or xs j d))) (get_or-map f xs i d (f d) below-i)
    (subst (λ b. S (get_or (map f xs) i (f d)) b) (get_or-map f xs j d (f d) below) (all i j (f d) lt below'))

-- two members of a list are one, or what holds of all pairs holds of them
pub of_pairs : {X : Type 0} (R : X → X → Type 0) (xs : List X) (x y : X) → AllPairs R xs → Contains xs x → Contains xs y → (x ≡ y) ⊎ R x y ⊎ R y x
of_pairs R xs x y all in-x in-y =
    let at-y : get_or xs in-y.0 x ≡ y = get_or_default xs in-y.0 x y in-y.1 ∙ in-y.2 in
    elim (cases_lt in-x.0 in-y.0) [
      | inl before ↦ inr (inl (subst (λ z. R z y) in-x.2 (subst (λ z. R (get_or xs in-x.0 x) z) at-y (all in-x.0 in-y.0 x before in-y.1))))
      | inr ge ↦ elim (cases_lt in-y.0 in-x.0) [
        | inl after ↦ inr (inr (subst (λ z. R z x) at-y (subst (λ z. R (get_or xs in-y.0 x) z) in-x.2 (all in-y.0 in-x.0 x after in-x.1))))
        | inr le ↦ let same : in-x.0 ≡ in-y.0 = omega arith in inl (sym in-x.2 ∙ ap (λ i. get_or xs i x) same ∙ at-y)
      ]
    ]
