-- One step more of a loop over a list: what the items so far gave, and what the next one adds.
use Rattle.std.proofs.Common.{◌≡◌, ℕ, zero, suc, ◌+◌, ◌<◌, Bool, true, false, ◌||◌, cond, List, [], ◌∷◌, ◌++◌, map, take, length, get_or, Some, refl, sym, ap, ◌∙◌, append_assoc, append-nil, arith}
use Rattle.std.specs.List.{list_any, filter, flat_map, slice_get, range_with_len}
use Rattle.std.proofs.lemmas.List.{take_more, map-append}
use Rattle.std.proofs.lemmas.List.Concat.{flat_map-append}
use Rattle.std.proofs.lemmas.List.Elements.{filter_more}
use Rattle.std.proofs.lemmas.List.Folds.{list_any_more}
use Rattle.std.proofs.lemmas.Option.{slice_get_within, get_or_from_slice_get}

-- ---- the next item of a list

module _ {X : Type 0} (xs : List X) (i : ℕ) (x : X) (within : i < length xs) (is : x ≡ get_or xs i x) where
  pub take_next : take (i + 1) xs ≡ take i xs ++ x ∷ []
  take_next = take_more xs i x within ∙ ap (λ (y : X). take i xs ++ y ∷ []) (sym is)

  pub map_next : {Y : Type 0} (f : X → Y) → map f (take (i + 1) xs) ≡ map f (take i xs) ++ f x ∷ []
  map_next f = ap (map f) take_next ∙ map-append f (take i xs) (x ∷ [])

  pub flat_map_next : {Y : Type 0} (f : X → List Y) → flat_map f (take (i + 1) xs) ≡ flat_map f (take i xs) ++ f x
  flat_map_next f = ap (flat_map f) take_next ∙ flat_map-append f (take i xs) (x ∷ []) ∙ ap (λ piece. flat_map f (take i xs) ++ piece) (append-nil (f x))

  pub any_next : (test : X → Bool) → list_any test (take (i + 1) xs) ≡ (list_any test (take i xs) || test x)
  any_next test = list_any_more test xs i x within ∙ ap (λ (y : X). list_any test (take i xs) || test y) (sym is)

  -- an item that is kept, and one that isn't
  pub filter_next_kept : (test : X → Bool) → test x ≡ true → filter test (take (i + 1) xs) ≡ filter test (take i xs) ++ x ∷ []
  filter_next_kept test passes =
      filter_more test xs i x within ∙ ap (λ (y : X). filter test (take i xs) ++ cond (test y) (y ∷ []) []) (sym is) ∙ ap (λ b. filter test (take i xs) ++ cond b (x ∷ []) []) passes

  pub filter_next_left : (test : X → Bool) → test x ≡ false → filter test (take (i + 1) xs) ≡ filter test (take i xs)
  filter_next_left test fails =
      filter_more test xs i x within ∙ ap (λ (y : X). filter test (take i xs) ++ cond (test y) (y ∷ []) []) (sym is) ∙ ap (λ b. filter test (take i xs) ++ cond b (x ∷ []) []) fails
      ∙ append-nil (filter test (take i xs))

  -- one round of a loop that adds at the end what the item is mapped to, or a piece for each item
  pub map_turn : {Y : Type 0} (f : X → Y) (start before after : List Y) → before ≡ start ++ map f (take i xs) → after ≡ before ++ f x ∷ [] → after ≡ start ++ map f (take (i + 1) xs)
  map_turn f start before after held made =
      made ∙ ap (λ all. all ++ f x ∷ []) held ∙ append_assoc start (map f (take i xs)) (f x ∷ []) ∙ ap (λ more. start ++ more) (sym (map_next f))

  pub flat_map_turn : {Y : Type 0} (f : X → List Y) (start before after : List Y) → before ≡ start ++ flat_map f (take i xs) → after ≡ before ++ f x → after ≡ start ++ flat_map f (take (i + 1) xs)
  flat_map_turn f start before after held made =
      made ∙ ap (λ all. all ++ f x) held ∙ append_assoc start (flat_map f (take i xs)) (f x) ∙ ap (λ more. start ++ more) (sym (flat_map_next f))

  -- one round of a loop that asks whether some item passes
  pub any_last : (test : X → Bool) (before after : Bool) → before ≡ list_any test (take i xs) → after ≡ (test x || before) → after ≡ list_any test (take (i + 1) xs)
  any_last test before after held asked =
      asked ∙ ap (λ b. test x || b) held ∙ turned (test x) (list_any test (take i xs)) ∙ sym (any_next test)
    where
      turned : (a b : Bool) → (a || b) ≡ (b || a)
      turned true true = refl
      turned true false = refl
      turned false true = refl
      turned false false = refl

  -- the same where something else may have held from the start
  pub any_turn : (test : X → Bool) (start before after : Bool) → before ≡ (list_any test (take i xs) || start) → after ≡ (test x || before) → after ≡ (list_any test (take (i + 1) xs) || start)
  any_turn test start before after held asked =
      asked ∙ ap (λ b. test x || b) held ∙ turned (test x) (list_any test (take i xs)) start ∙ ap (λ b. b || start) (sym (any_next test))
    where
      turned : (a b c : Bool) → (a || (b || c)) ≡ ((b || a) || c)
      turned true true c = refl
      turned true false c = refl
      turned false true c = refl
      turned false false c = refl

-- the same where the item was taken by `get`
pub take_got : {X : Type 0} (xs : List X) (i : ℕ) (x : X) → slice_get xs i ≡ Some x → take (i + 1) xs ≡ take i xs ++ x ∷ []
take_got xs i x at = take_next xs i x (slice_get_within xs i x at) (sym (get_or_from_slice_get xs i x x at))

pub flat_map_got : {X Y : Type 0} (f : X → List Y) (xs : List X) (i : ℕ) (x : X) → slice_get xs i ≡ Some x → flat_map f (take (i + 1) xs) ≡ flat_map f (take i xs) ++ f x
flat_map_got f xs i x at = flat_map_next xs i x (slice_get_within xs i x at) (sym (get_or_from_slice_get xs i x x at)) f

-- ---- the next number of a range

pub range_next : (a n : ℕ) → range_with_len a (n + 1) ≡ range_with_len a n ++ (a + n) ∷ []
range_next a zero = let e : a ≡ a + 0 = omega arith in ap (λ m. m ∷ []) e
range_next a (suc n) =
    let e : suc n + 1 ≡ suc (n + 1) = omega arith in
    let s : a + 1 + n ≡ a + suc n = omega arith in
    ap (λ m. range_with_len a m) e ∙ ap (λ l. a ∷ l) (range_next (a + 1) n) ∙ ap (λ m. a ∷ (range_with_len (a + 1) n ++ m ∷ [])) s

pub flat_map_range_next : {Y : Type 0} (f : ℕ → List Y) (n : ℕ) → flat_map f (range_with_len 0 (n + 1)) ≡ flat_map f (range_with_len 0 n) ++ f n
flat_map_range_next f n =
    let e : 0 + n ≡ n = omega arith in
    ap (flat_map f) (range_next 0 n ∙ ap (λ m. range_with_len 0 n ++ m ∷ []) e)
    ∙ flat_map-append f (range_with_len 0 n) (n ∷ [])
    ∙ ap (λ l. flat_map f (range_with_len 0 n) ++ l) (append-nil (f n))
