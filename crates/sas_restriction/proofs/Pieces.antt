-- What a loop over a list keeps, piece by piece.
use Rattle.std.proofs.Common.{◌≡◌, ℕ, ◌+◌, ◌≤◌, Bool, true, false, cond, List, [], ◌∷◌, ◌++◌, map, filter, length, take, append-nil, sym, ap, ◌∙◌, refl}
use Rattle.std.specs.List.{flat_map}
use Rattle.std.proofs.lemmas.List.{take_all}
use Rattle.std.proofs.lemmas.List.Concat.{flat_map-append}

abbrev pub kept_piece : {X Y : Type 0} → (X → Bool) → (X → Y) → X → List Y
kept_piece p f x = cond (p x) (f x ∷ []) []

abbrev pub made_piece : {X Y : Type 0} → (X → Y) → (Y → Bool) → X → List Y
made_piece f q x = cond (q (f x)) (f x ∷ []) []

pub kept_pieces : {X Y : Type 0} (p : X → Bool) (f : X → Y) (xs : List X) → map f (filter p xs) ≡ flat_map (kept_piece p f) xs
kept_pieces p f [] = refl
kept_pieces p f (x ∷ xs) = by_test (kept_pieces p f xs) (p x)
  where
    by_test : map f (filter p xs) ≡ flat_map (kept_piece p f) xs → (b : Bool) → map f (cond b (x ∷ filter p xs) (filter p xs)) ≡ cond b (f x ∷ []) [] ++ flat_map (kept_piece p f) xs
    by_test rest true = ap (λ ys. f x ∷ ys) rest
    by_test rest false = rest

pub made_pieces : {X Y : Type 0} (f : X → Y) (q : Y → Bool) (xs : List X) → filter q (map f xs) ≡ flat_map (made_piece f q) xs
made_pieces f q [] = refl
made_pieces f q (x ∷ xs) = by_test (made_pieces f q xs) (q (f x))
  where
    by_test : filter q (map f xs) ≡ flat_map (made_piece f q) xs → (b : Bool) → cond b (f x ∷ filter q (map f xs)) (filter q (map f xs)) ≡ cond b (f x ∷ []) [] ++ flat_map (made_piece f q) xs
    by_test rest true = ap (λ ys. f x ∷ ys) rest
    by_test rest false = rest

-- one item more, and all of them
pub piece_more : {X Y : Type 0} (f : X → List Y) (xs : List X) (i : ℕ) (x : X) (before after : List Y) → take (i + 1) xs ≡ take i xs ++ x ∷ [] → before ≡ flat_map f (take i xs) → after ≡ before ++ f x → after ≡ flat_map f (take (i + 1) xs)
piece_more f xs i x before after more held made =
    made ∙ ap (λ all. all ++ f x) held ∙ sym (ap (flat_map f) more ∙ flat_map-append f (take i xs) (x ∷ []) ∙ ap (λ ys. flat_map f (take i xs) ++ ys) (append-nil (f x)))

pub piece_all : {X Y : Type 0} (f : X → List Y) (xs : List X) (i : ℕ) (all : List Y) → length xs ≤ i → all ≡ flat_map f (take i xs) → all ≡ flat_map f xs
piece_all f xs i all past held = held ∙ ap (flat_map f) (take_all i xs past)

-- the same where the list is taken apart
pub piece_yielded : {X Y : Type 0} (f : X → List Y) (done : List X) (x : X) (before after : List Y) → before ≡ flat_map f done → after ≡ before ++ f x → after ≡ flat_map f (done ++ x ∷ [])
piece_yielded f done x before after held made =
    made ∙ ap (λ all. all ++ f x) held ∙ sym (flat_map-append f done (x ∷ []) ∙ ap (λ ys. flat_map f done ++ ys) (append-nil (f x)))
