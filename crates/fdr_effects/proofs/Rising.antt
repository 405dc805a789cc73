-- Lists of pairs that rise by variable, and lists of pairs in order.
use Rattle.std.proofs.Common.{◌≡◌, ℕ, ◌+◌, ◌<◌, ◌≤◌, Bool, List, [], ◌∷◌, ◌++◌, map, length, get_or, sym, ◌∙◌, subst, inl, inr, arith}
use Rattle.std.specs.List.{Contains, AllPairs, filter, flat_map, range_with_len}
use Rattle.std.specs.List.Sorted.{IsStrictlyIncreasing}
use Rattle.std.proofs.lemmas.List.{get_or-map, length-map}
use Rattle.std.proofs.lemmas.List.Elements.{Contains-append_cases}
use Rattle.std.proofs.lemmas.List.Kept.{AllPairs-from_increasing, AllPairs-filter, AllPairs-cons}
use Rattle.lists.proofs.Ordered.{range_increasing, pairs_head, pairs_tail, same_ordered}
use Rattle.lists.proofs.Members.{no_member, member_first, member_later, flat_map_member, all_from_members, map_member, member_single}

abbrev pub IsBelowBy : {X : Type 0} → (X → ℕ) → X → X → Type 0
IsBelowBy key x y = key x < key y

-- lists that rise by a key
pub rising_from : {X : Type 0} (key : X → ℕ) (xs : List X) → IsStrictlyIncreasing (map key xs) → AllPairs (IsBelowBy key) xs
rising_from key xs up i j d before within =
    let pairs = AllPairs-from_increasing (map key xs) up in
    let long = length-map xs key in
    let within' : j < length (map key xs) = omega arith in
    let low : i < length xs = omega arith in
    subst (λ a. a < key (get_or xs j d)) (get_or-map key xs i d (key d) low)
    (subst (λ b. get_or (map key xs) i (key d) < b) (get_or-map key xs j d (key d) within) (pairs i j (key d) before within'))

pub rising_to : {X : Type 0} (key : X → ℕ) (xs : List X) → AllPairs (IsBelowBy key) xs → IsStrictlyIncreasing (map key xs)
rising_to key [] pairs k within = absurd (omega arith)
rising_to key (x ∷ xs) pairs k within =
    let long = length-map (x ∷ xs) key in
    let high : k + 1 < length (x ∷ xs) = omega arith in
    let low : k < length (x ∷ xs) = omega arith in
    let step : k < k + 1 = omega arith in
    subst (λ a. a < get_or (map key (x ∷ xs)) (k + 1) 0) (sym (get_or-map key (x ∷ xs) k x 0 low))
    (subst (λ b. key (get_or (x ∷ xs) k x) < b) (sym (get_or-map key (x ∷ xs) (k + 1) x 0 high)) (pairs k (k + 1) x step high))

pub rising_filter : {X : Type 0} (key : X → ℕ) (keep : X → Bool) (xs : List X) → IsStrictlyIncreasing (map key xs) → IsStrictlyIncreasing (map key (filter keep xs))
rising_filter key keep xs up = rising_to key (filter keep xs) (AllPairs-filter (IsBelowBy key) keep xs (rising_from key xs up))

pub range_rises : (n : ℕ) → AllPairs (λ x y. x < y) (range_with_len 0 n)
range_rises n = AllPairs-from_increasing (range_with_len 0 n) (range_increasing n)

-- each element of the first list stands in the relation to each of the second
pub pairs_append : {X : Type 0} (R : X → X → Type 0) (xs ys : List X) → AllPairs R xs → AllPairs R ys → ((x y : X) → Contains xs x → Contains ys y → R x y) → AllPairs R (xs ++ ys)
pairs_append R [] ys px py across = py
pairs_append R (x ∷ xs) ys px py across =
    AllPairs-cons R x (xs ++ ys)
    (all_from_members (R x) (xs ++ ys) (λ z in'. elim (Contains-append_cases xs ys z in') [
      | inl a ↦ pairs_head R x xs px z a
      | inr b ↦ across x z (member_first x xs) b
    ]))
    (pairs_append R xs ys (pairs_tail R x xs px) py (λ z y z-in y-in. across z y (member_later x z xs z-in) y-in))

-- pieces in order, one after the other
pub pairs_flat_map : {X Y : Type 0} (R : Y → Y → Type 0) (S : X → X → Type 0) (f : X → List Y) (xs : List X) → AllPairs S xs → ((x : X) → AllPairs R (f x)) → ((x y : X) → S x y → (a b : Y) → Contains (f x) a → Contains (f y) b → R a b) → AllPairs R (flat_map f xs)
pairs_flat_map R S f [] px inside across = λ i j d before within. absurd (omega arith)
pairs_flat_map R S f (x ∷ xs) px inside across =
    pairs_append R (f x) (flat_map f xs) (inside x) (pairs_flat_map R S f xs (pairs_tail S x xs px) inside across)
    (λ a b a-in b-in. let z = flat_map_member f xs b b-in in across x z.0 (pairs_head S x xs px z.0 z.1) a b a-in z.2)

-- a map keeps the order
pub pairs_map : {X Y : Type 0} (R : Y → Y → Type 0) (S : X → X → Type 0) (f : X → Y) (xs : List X) → ((x y : X) → S x y → R (f x) (f y)) → AllPairs S xs → AllPairs R (map f xs)
pairs_map R S f [] keeps px = λ i j d before within. absurd (omega arith)
pairs_map R S f (x ∷ xs) keeps px =
    AllPairs-cons R (f x) (map f xs)
    (all_from_members (R (f x)) (map f xs) (λ y in'. let z = map_member f xs y in' in subst (R (f x)) z.2 (keeps x z.0 (pairs_head S x xs px z.0 z.1))))
    (pairs_map R S f xs keeps (pairs_tail S x xs px))

-- a list with two members that differ has at least two
pub two_members : {X : Type 0} (xs : List X) (x y : X) → Contains xs x → Contains xs y → (x ≡ y → ⊥) → 2 ≤ length xs
two_members [] x y x-in y-in apart = absurd (no_member x x-in)
two_members (z ∷ []) x y x-in y-in apart = absurd (apart (sym (member_single z x x-in) ∙ member_single z y y-in))
two_members (z ∷ w ∷ xs) x y x-in y-in apart = omega arith

-- two lists in order with the same members are one
pub same_in_order : (xs ys : List ℕ) → IsStrictlyIncreasing xs → IsStrictlyIncreasing ys → ((z : ℕ) → Contains xs z → Contains ys z) → ((z : ℕ) → Contains ys z → Contains xs z) → xs ≡ ys
same_in_order xs ys up up' =
    same_ordered (λ x y. x < y) (λ x y less more. absurd (omega arith)) xs ys (AllPairs-from_increasing xs up) (AllPairs-from_increasing ys up')
