-- Items of lists: where they stand, and what passes a test.
use Rattle.std.proofs.Common.{◌≡◌, ℕ, zero, suc, ◌<◌, Bool, true, false, ◌&&◌, ◌||◌, cond, ◌⊎◌, inl, inr, List, [], ◌∷◌, ◌++◌, map, length, get_or, Some, None, refl, sym, ap, ◌∙◌, subst, arith}
use Rattle.std.specs.Cmp.{both_ways}
use Rattle.std.specs.List.{list_any, list_all, flat_map, filter, slice_get, Contains}
use Rattle.std.proofs.lemmas.Bool.{or_cases, or_left, or_right, and_parts, and_from, cases_Bool, true≢false, false_from_ne_true}
use Rattle.std.proofs.lemmas.List.{map-append}
use Rattle.std.proofs.lemmas.List.Folds.{list_all-append, list_any-append}
use Rattle.std.proofs.lemmas.Map.Views.{Contains-from_any}
use Rattle.lists.specs.Members.{is_among}
use Rattle.std.proofs.Math.Bool.{and_assoc}

-- The item stands in the list: std's `Contains` in its form for induction, which stands in proofs alone.
abbrev pub Among : {X : Type 0} → X → List X → Type 0
Among item [] = ⊥
Among item (x ∷ xs) = (x ≡ item) ⊎ Among item xs

pub among_at : {X : Type 0} (xs : List X) (place : ℕ) (other : X) → place < length xs → Among (get_or xs place other) xs
among_at [] place other within = absurd (omega (arith, within))
among_at (x ∷ xs) zero other within = inl refl
among_at (x ∷ xs) (suc place) other within = inr (among_at xs place other (omega (arith, within)))

pub among_contains : {X : Type 0} (xs : List X) (item : X) → Contains xs item → Among item xs
among_contains xs item in' = subst (λ x. Among x xs) in'.2 (among_at xs in'.0 item in'.1)

contains_later : {X : Type 0} (x : X) (xs : List X) (item : X) → Contains xs item → Contains (x ∷ xs) item
contains_later x xs item in' = (suc in'.0, omega (arith, in'.1), in'.2)

pub contains_among : {X : Type 0} (xs : List X) (item : X) → Among item xs → Contains xs item
contains_among [] item none = absurd none
contains_among (x ∷ xs) item (inl here) = (zero, omega arith, here)
contains_among (x ∷ xs) item (inr there) = contains_later x xs item (contains_among xs item there)

pub among_map : {X Y : Type 0} (f : X → Y) (item : X) (xs : List X) → Among item xs → Among (f item) (map f xs)
among_map f item [] none = absurd none
among_map f item (x ∷ xs) (inl here) = inl (ap f here)
among_map f item (x ∷ xs) (inr there) = inr (among_map f item xs there)

-- where an item of a mapped list comes from
pub record Source {X Y : Type 0} (f : X → Y) (xs : List X) (item : Y) : Type 0 where
  pub source : X
  pub among : Among source xs
  pub gives : f source ≡ item

pub map_source : {X Y : Type 0} (f : X → Y) (xs : List X) (item : Y) → Among item (map f xs) → Source f xs item
map_source f [] item none = absurd none
map_source f (x ∷ xs) item (inl here) = record { source = x; among = inl refl; gives = here }
map_source f (x ∷ xs) item (inr there) = let rest = map_source f xs item there in record { source = rest.source; among = inr rest.among; gives = rest.gives }

pub all_passes : {X : Type 0} (test : X → Bool) (item : X) (xs : List X) → Among item xs → list_all test xs ≡ true → test item ≡ true
all_passes test item [] none all = absurd none
all_passes test item (x ∷ xs) (inl here) all = sym (ap test here) ∙ (and_parts (test x) (list_all test xs) all).0
all_passes test item (x ∷ xs) (inr there) all = all_passes test item xs there (and_parts (test x) (list_all test xs) all).1

pub each_passes : {X : Type 0} (test : X → Bool) (xs : List X) → ((x : X) → Among x xs → test x ≡ true) → list_all test xs ≡ true
each_passes test [] each = refl
each_passes test (x ∷ xs) each =
    let here = each x (inl refl) in
    let rest = each_passes test xs (λ y there. each y (inr there)) in
    cc (here, rest)

pub any_passes : {X : Type 0} (test : X → Bool) (item : X) (xs : List X) → Among item xs → test item ≡ true → list_any test xs ≡ true
any_passes test item [] none passes = absurd none
any_passes test item (x ∷ xs) (inl here) passes = or_left (test x) (list_any test xs) (ap test here ∙ passes)
any_passes test item (x ∷ xs) (inr there) passes = or_right (test x) (list_any test xs) (any_passes test item xs there passes)

-- an item that passes
pub record Passing {X : Type 0} (test : X → Bool) (xs : List X) : Type 0 where
  pub item : X
  pub among : Among item xs
  pub passes : test item ≡ true

pub passing : {X : Type 0} (test : X → Bool) (xs : List X) → list_any test xs ≡ true → Passing test xs
passing test [] some = absurd (true≢false (sym some))
passing test (x ∷ xs) some = by_first (passing test xs) (or_cases (test x) (list_any test xs) some)
  where
    by_first : (list_any test xs ≡ true → Passing test xs) → (test x ≡ true) ⊎ (list_any test xs ≡ true) → Passing test (x ∷ xs)
    by_first more (inl here) = record { item = x; among = inl refl; passes = here }
    by_first more (inr there) = let rest = more there in record { item = rest.item; among = inr rest.among; passes = rest.passes }

pub none_passes : {X : Type 0} (test : X → Bool) (xs : List X) → ((x : X) → Among x xs → test x ≡ true → ⊥) → list_any test xs ≡ false
none_passes test xs none =
    false_from_ne_true (list_any test xs) (λ some. let found = passing test xs some in none found.item found.among found.passes)

-- tests that say the same of each item say the same of the list
pub same_any : {X : Type 0} (test other : X → Bool) (xs : List X) → ((x : X) → Among x xs → test x ≡ other x) → list_any test xs ≡ list_any other xs
same_any test other [] same = refl
same_any test other (x ∷ xs) same =
    let here = same x (inl refl) in
    let rest = same_any test other xs (λ y there. same y (inr there)) in
    cc (here, rest)

pub same_all : {X : Type 0} (test other : X → Bool) (xs : List X) → ((x : X) → Among x xs → test x ≡ other x) → list_all test xs ≡ list_all other xs
same_all test other [] same = refl
same_all test other (x ∷ xs) same =
    let here = same x (inl refl) in
    let rest = same_all test other xs (λ y there. same y (inr there)) in
    cc (here, rest)

-- functions that give the same of each item give the same of the list
pub same_map : {X Y : Type 0} (f g : X → Y) (xs : List X) → ((x : X) → Among x xs → f x ≡ g x) → map f xs ≡ map g xs
same_map f g [] same = refl
same_map f g (x ∷ xs) same =
    let here = same x (inl refl) in
    let rest = same_map f g xs (λ y there. same y (inr there)) in
    cc (here, rest)

-- tests that say the same of each item keep the same items
pub same_filter : {X : Type 0} (test other : X → Bool) (xs : List X) → ((x : X) → Among x xs → test x ≡ other x) → filter test xs ≡ filter other xs
same_filter test other [] same = refl
same_filter test other (x ∷ xs) same =
    let here = same x (inl refl) in
    let rest = same_filter test other xs (λ y there. same y (inr there)) in
    cc (here, rest)

-- a test of a mapped list
pub any_map : {X Y : Type 0} (test : Y → Bool) (f : X → Y) (xs : List X) → list_any test (map f xs) ≡ list_any (λ x. test (f x)) xs
any_map test f [] = refl
any_map test f (x ∷ xs) = ap (λ b. test (f x) || b) (any_map test f xs)

-- lists with the same items pass a test alike
pub same_items_any : {X : Type 0} (test : X → Bool) (xs ys : List X) → ((x : X) → Among x xs → Among x ys) → ((x : X) → Among x ys → Among x xs) → list_any test xs ≡ list_any test ys
same_items_any test xs ys forth back =
    both_ways (list_any test xs) (list_any test ys)
    (λ some. let found = passing test xs some in any_passes test found.item ys (forth found.item found.among) found.passes)
    (λ some. let found = passing test ys some in any_passes test found.item xs (back found.item found.among) found.passes)

-- ---- filtered lists

pub filter_yes : {X : Type 0} (test : X → Bool) (x : X) (xs : List X) → test x ≡ true → filter test (x ∷ xs) ≡ x ∷ filter test xs
filter_yes test x xs passes = ap (λ b. cond b (x ∷ filter test xs) (filter test xs)) passes

pub filter_no : {X : Type 0} (test : X → Bool) (x : X) (xs : List X) → test x ≡ false → filter test (x ∷ xs) ≡ filter test xs
filter_no test x xs fails = ap (λ b. cond b (x ∷ filter test xs) (filter test xs)) fails

pub among_filter : {X : Type 0} (test : X → Bool) (item : X) (xs : List X) → Among item xs → test item ≡ true → Among item (filter test xs)
among_filter test item [] none passes = absurd none
among_filter test item (x ∷ xs) (inl here) passes = subst (Among item) (sym (filter_yes test x xs (ap test here ∙ passes))) (inl here)
among_filter test item (x ∷ xs) (inr there) passes =
    elim (cases_Bool (test x)) [
      | inl is ↦ subst (Among item) (sym (filter_yes test x xs is)) (inr (among_filter test item xs there passes))
      | inr not ↦ subst (Among item) (sym (filter_no test x xs not)) (among_filter test item xs there passes)
    ]

pub filter_among : {X : Type 0} (test : X → Bool) (item : X) (xs : List X) → Among item (filter test xs) → Among item xs × (test item ≡ true)
filter_among test item [] none = absurd none
filter_among test item (x ∷ xs) in' = by_first (filter_among test item xs) (cases_Bool (test x))
  where
    later : Among item xs × (test item ≡ true) → Among item (x ∷ xs) × (test item ≡ true)
    later found = (inr found.0, found.1)

    by_place : (Among item (filter test xs) → Among item xs × (test item ≡ true)) → test x ≡ true → (x ≡ item) ⊎ Among item (filter test xs) → Among item (x ∷ xs) × (test item ≡ true)
    by_place more is (inl here) = (inl here, sym (ap test here) ∙ is)
    by_place more is (inr there) = later (more there)

    by_first : (Among item (filter test xs) → Among item xs × (test item ≡ true)) → (test x ≡ true) ⊎ (test x ≡ false) → Among item (x ∷ xs) × (test item ≡ true)
    by_first more (inl is) = by_place more is (subst (Among item) (filter_yes test x xs is) in')
    by_first more (inr not) = later (more (subst (Among item) (filter_no test x xs not) in'))

-- a test of the items left after a filter, under new names
pub any_kept : {X Y : Type 0} (keeps : X → Bool) (named : X → Y) (test : X → Bool) (test' : Y → Bool) (xs : List X) →
    ((x : X) → Among x xs → keeps x ≡ true → test x ≡ test' (named x)) → ((x : X) → Among x xs → keeps x ≡ false → test x ≡ false) →
    list_any test xs ≡ list_any test' (map named (filter keeps xs))
any_kept keeps named test test' [] same none = refl
any_kept keeps named test test' (x ∷ xs) same none =
    let rest = any_kept keeps named test test' xs (λ y there. same y (inr there)) (λ y there. none y (inr there)) in
    elim (cases_Bool (keeps x)) [
      | inl is ↦ let here = same x (inl refl) is in let list = ap (λ l. list_any test' (map named l)) (filter_yes keeps x xs is) in cc (here, rest, list)
      | inr not ↦ let here = none x (inl refl) not in let list = ap (λ l. list_any test' (map named l)) (filter_no keeps x xs not) in cc (here, rest, list)
    ]

swap : (f c r : Bool) → (f && (c && r)) ≡ (c && (f && r))
swap true c r = refl
swap false true r = refl
swap false false r = refl

-- of all items, those that aren't kept pass as `value` says, and the others under new names
pub all_kept : {X Y : Type 0} (keeps : X → Bool) (named : X → Y) (value : X → Bool) (test : X → Bool) (test' : Y → Bool) →
    ((x : X) → keeps x ≡ true → test' (named x) ≡ test x) → ((x : X) → keeps x ≡ false → test x ≡ value x) → (xs : List X) →
    list_all test xs ≡ (list_all (λ x. keeps x || value x) xs && list_all test' (map named (filter keeps xs)))
all_kept keeps named value test test' same settled [] = refl
all_kept keeps named value test test' same settled (x ∷ xs) =
    let open' = list_all (λ y. keeps y || value y) xs in
    let left = list_all test' (map named (filter keeps xs)) in
    let rest = all_kept keeps named value test test' same settled xs in
    elim (cases_Bool (keeps x)) [
      | inl is ↦
          let here = same x is in
          let list = ap (λ l. list_all test' (map named l)) (filter_yes keeps x xs is) in
          let goes = swap (test x) open' left in
          let some = ap (λ b. b || value x) is in
          cc (here, rest, list, goes, some)
      | inr not ↦
          let here = settled x not in
          let list = ap (λ l. list_all test' (map named l)) (filter_no keeps x xs not) in
          let goes = sym (and_assoc (value x) open' left) in
          let some = ap (λ b. b || value x) not in
          cc (here, rest, list, goes, some)
    ]

-- ---- joined lists

pub among_left : {X : Type 0} (item : X) (xs ys : List X) → Among item xs → Among item (xs ++ ys)
among_left item [] ys none = absurd none
among_left item (x ∷ xs) ys (inl here) = inl here
among_left item (x ∷ xs) ys (inr there) = inr (among_left item xs ys there)

pub among_right : {X : Type 0} (item : X) (xs ys : List X) → Among item ys → Among item (xs ++ ys)
among_right item [] ys there = there
among_right item (x ∷ xs) ys there = inr (among_right item xs ys there)

pub among_which : {X : Type 0} (item : X) (xs ys : List X) → Among item (xs ++ ys) → Among item xs ⊎ Among item ys
among_which item [] ys there = inr there
among_which item (x ∷ xs) ys (inl here) = inl (inl here)
among_which item (x ∷ xs) ys (inr there) = behind (among_which item xs ys there)
  where
    behind : Among item xs ⊎ Among item ys → Among item (x ∷ xs) ⊎ Among item ys
    behind (inl first) = inl (inr first)
    behind (inr second) = inr second

pub among_flat_map : {X Y : Type 0} (f : X → List Y) (x : X) (item : Y) (xs : List X) → Among x xs → Among item (f x) → Among item (flat_map f xs)
among_flat_map f x item [] none inside = absurd none
among_flat_map f x item (first ∷ xs) (inl here) inside = among_left item (f first) (flat_map f xs) (subst (λ x. Among item (f x)) (sym here) inside)
among_flat_map f x item (first ∷ xs) (inr there) inside = among_right item (f first) (flat_map f xs) (among_flat_map f x item xs there inside)

-- the item whose piece has an item of all pieces joined
pub record Piece {X Y : Type 0} (f : X → List Y) (xs : List X) (item : Y) : Type 0 where
  pub source : X
  pub among : Among source xs
  pub inside : Among item (f source)

pub flat_map_piece : {X Y : Type 0} (f : X → List Y) (xs : List X) (item : Y) → Among item (flat_map f xs) → Piece f xs item
flat_map_piece f [] item none = absurd none
flat_map_piece f (x ∷ xs) item there = by_half (flat_map_piece f xs item) (among_which item (f x) (flat_map f xs) there)
  where
    by_half : (Among item (flat_map f xs) → Piece f xs item) → Among item (f x) ⊎ Among item (flat_map f xs) → Piece f (x ∷ xs) item
    by_half more (inl here) = record { source = x; among = inl refl; inside = here }
    by_half more (inr later) = let rest = more later in record { source = rest.source; among = inr rest.among; inside = rest.inside }

pub any_append : {X : Type 0} (test : X → Bool) (xs ys : List X) → list_any test (xs ++ ys) ≡ (list_any test xs || list_any test ys)
any_append = list_any-append

-- a test of the joined pieces is a test of each
pub any_flat_map : {X Y : Type 0} (f : X → List Y) (test : Y → Bool) (xs : List X) → list_any test (flat_map f xs) ≡ list_any (λ x. list_any test (f x)) xs
any_flat_map f test [] = refl
any_flat_map f test (x ∷ xs) = any_append test (f x) (flat_map f xs) ∙ ap (λ b. list_any test (f x) || b) (any_flat_map f test xs)

-- what doesn't depend on the item
pub any_and : {X : Type 0} (b : Bool) (test : X → Bool) (xs : List X) → list_any (λ x. b && test x) xs ≡ (b && list_any test xs)
any_and true test xs = refl
any_and false test [] = refl
any_and false test (x ∷ xs) = any_and false test xs

pub map_itself : {X : Type 0} (xs : List X) → map (λ (x : X). x) xs ≡ xs
map_itself [] = refl
map_itself (x ∷ xs) = ap (λ l. x ∷ l) (map_itself xs)

-- ---- an item taken out

abbrev pub taken_out : {X : Type 0} (item : X) (xs : List X) → Among item xs → List X
taken_out item [] none = []
taken_out item (x ∷ xs) (inl here) = xs
taken_out item (x ∷ xs) (inr there) = x ∷ taken_out item xs there

pub one_fewer : {X : Type 0} (item : X) (xs : List X) (among : Among item xs) → suc (length (taken_out item xs among)) ≡ length xs
one_fewer item [] none = absurd none
one_fewer item (x ∷ xs) (inl here) = refl
one_fewer item (x ∷ xs) (inr there) = ap (λ (n : ℕ). suc n) (one_fewer item xs there)

-- each item is the one taken out, or stands in what is left
pub out_or_left : {X : Type 0} (item : X) (xs : List X) (among : Among item xs) (other : X) → Among other xs → (item ≡ other) ⊎ Among other (taken_out item xs among)
out_or_left item [] none other there = absurd none
out_or_left item (x ∷ xs) (inl here) other (inl same) = inl (sym here ∙ same)
out_or_left item (x ∷ xs) (inl here) other (inr there) = inr there
out_or_left item (x ∷ xs) (inr behind) other (inl same) = inr (inl same)
out_or_left item (x ∷ xs) (inr behind) other (inr there) = by_rest (out_or_left item xs behind other there)
  where
    by_rest : (item ≡ other) ⊎ Among other (taken_out item xs behind) → (item ≡ other) ⊎ Among other (x ∷ taken_out item xs behind)
    by_rest (inl same) = inl same
    by_rest (inr left) = inr (inr left)

-- ---- membership as a test

module _ {X : Type 0} (same : X → X → Bool) where
  pub told_contains : ((x y : X) → same x y ≡ true → x ≡ y) → (xs : List X) (item : X) → is_among same xs item ≡ true → Contains xs item
  told_contains exact xs item told = Contains-from_any exact item xs told

  pub contains_told : ((x : X) → same x x ≡ true) → (xs : List X) (item : X) → Contains xs item → is_among same xs item ≡ true
  contains_told itself xs item in' = any_passes (same item) item xs (among_contains xs item in') (itself item)

-- ---- a fact of each item, in its form for induction

abbrev pub Each : {X : Type 0} → (X → Type 0) → List X → Type 0
Each P [] = Unit
Each P (x ∷ xs) = P x × Each P xs

pub each_both : {X : Type 0} (P : X → Type 0) (xs ys : List X) → Each P xs → Each P ys → Each P (xs ++ ys)
each_both P [] ys one other = other
each_both P (x ∷ xs) ys one other = (one.0, each_both P xs ys one.1 other)

-- ---- what all items of joined lists pass

module _ {X : Type 0} (test : X → Bool) (xs ys : List X) where
  pub all_both : list_all test xs ≡ true → list_all test ys ≡ true → list_all test (xs ++ ys) ≡ true
  all_both left right = list_all-append test xs ys ∙ and_from (list_all test xs) (list_all test ys) left right

  pub all_left : list_all test (xs ++ ys) ≡ true → list_all test xs ≡ true
  all_left all = (and_parts (list_all test xs) (list_all test ys) (sym (list_all-append test xs ys) ∙ all)).0

  pub all_right : list_all test (xs ++ ys) ≡ true → list_all test ys ≡ true
  all_right all = (and_parts (list_all test xs) (list_all test ys) (sym (list_all-append test xs ys) ∙ all)).1

-- ---- empty lists

pub map_empty : {X Y : Type 0} (f : X → Y) (xs : List X) → map f xs ≡ [] → xs ≡ []
map_empty f [] none = refl
map_empty f (x ∷ xs) none = absurd cc

pub left_empty : {X : Type 0} (xs ys : List X) → xs ++ ys ≡ [] → xs ≡ []
left_empty [] ys none = refl
left_empty (x ∷ xs) ys none = absurd cc

pub right_empty : {X : Type 0} (xs ys : List X) → xs ++ ys ≡ [] → ys ≡ []
right_empty [] ys none = none
right_empty (x ∷ xs) ys none = absurd cc

pub piece_empty : {X Y : Type 0} (f : X → List Y) (xs : List X) → flat_map f xs ≡ [] → (x : X) → Among x xs → f x ≡ []
piece_empty f [] none x there = absurd there
piece_empty f (y ∷ xs) none x (inl here) = subst (λ z. f z ≡ []) here (left_empty (f y) (flat_map f xs) none)
piece_empty f (y ∷ xs) none x (inr there) = piece_empty f xs (right_empty (f y) (flat_map f xs) none) x there

-- ---- joined pieces

pub map_flat_map : {X Y Z : Type 0} (f : Y → Z) (g : X → List Y) (xs : List X) → map f (flat_map g xs) ≡ flat_map (λ x. map f (g x)) xs
map_flat_map f g [] = refl
map_flat_map f g (x ∷ xs) = map-append f (g x) (flat_map g xs) ∙ ap (λ l. map f (g x) ++ l) (map_flat_map f g xs)

pub same_flat_map : {X Y : Type 0} (f g : X → List Y) (xs : List X) → ((x : X) → Among x xs → f x ≡ g x) → flat_map f xs ≡ flat_map g xs
same_flat_map f g [] same = refl
same_flat_map f g (x ∷ xs) same =
    let here = same x (inl refl) in
    let rest = same_flat_map f g xs (λ y there. same y (inr there)) in
    cc (here, rest)

-- ---- items at places

pub slice_among : {X : Type 0} (xs : List X) (i : ℕ) (x : X) → slice_get xs i ≡ Some x → Among x xs
slice_among [] i x at = let no : None ≡ Some x = at in absurd (let none : ⊥ = cc no in none)
slice_among (y ∷ ys) zero x at = let is : y ≡ x = cc at in inl is
slice_among (y ∷ ys) (suc i) x at = inr (slice_among ys i x at)

pub at_seam : {X : Type 0} (xs : List X) (y : X) (ys : List X) → slice_get (xs ++ y ∷ ys) (length xs) ≡ Some y
at_seam [] y ys = refl
at_seam (x ∷ xs) y ys = at_seam xs y ys

pub within_left : {X : Type 0} (xs ys : List X) (i : ℕ) → i < length xs → slice_get (xs ++ ys) i ≡ slice_get xs i
within_left [] ys i below = absurd (omega (arith, below))
within_left (x ∷ xs) ys zero below = refl
within_left (x ∷ xs) ys (suc i) below = within_left xs ys i (omega (arith, below))

-- ---- there and back, tests on pieces, and either of two tests

pub map_back : {X Y : Type 0} (f : X → Y) (g : Y → X) → ((x : X) → g (f x) ≡ x) → (xs : List X) → map g (map f xs) ≡ xs
map_back f g back [] = refl
map_back f g back (x ∷ xs) =
    let here = back x in
    let rest = map_back f g back xs in
    cc (here, rest)

pub all_flat_map : {X Y : Type 0} (test : Y → Bool) (piece : X → List Y) (xs : List X) → list_all test (flat_map piece xs) ≡ list_all (λ x. list_all test (piece x)) xs
all_flat_map test piece [] = refl
all_flat_map test piece (x ∷ xs) = list_all-append test (piece x) (flat_map piece xs) ∙ ap (λ b. list_all test (piece x) && b) (all_flat_map test piece xs)

or_cross : (a b c d : Bool) → ((a || b) || (c || d)) ≡ ((a || c) || (b || d))
or_cross true b c d = refl
or_cross false true true d = refl
or_cross false true false d = refl
or_cross false false c d = refl

pub any_or : {X : Type 0} (test other : X → Bool) (xs : List X) → list_any (λ x. test x || other x) xs ≡ (list_any test xs || list_any other xs)
any_or test other [] = refl
any_or test other (x ∷ xs) =
    ap (λ r. (test x || other x) || r) (any_or test other xs) ∙ or_cross (test x) (other x) (list_any test xs) (list_any other xs)

-- some of some, in either order
pub any_swap : {X Y : Type 0} (test : X → Y → Bool) (xs : List X) (ys : List Y) → list_any (λ x. list_any (test x) ys) xs ≡ list_any (λ y. list_any (λ x. test x y) xs) ys
any_swap test [] ys = sym (none_passes (λ y. false) ys (λ y there is. true≢false (sym is)))
any_swap test (x ∷ xs) ys =
    ap (λ r. list_any (test x) ys || r) (any_swap test xs ys) ∙ sym (any_or (test x) (λ y. list_any (λ x. test x y) xs) ys)

-- the test of one item more at the end
pub or_last : (a b : Bool) → (a || (b || false)) ≡ (b || a)
or_last true true = refl
or_last true false = refl
or_last false true = refl
or_last false false = refl

-- the same, where the item is asked first
pub last_of : (a b : Bool) → cond a true b ≡ (b || (a || false))
last_of true true = refl
last_of true false = refl
last_of false true = refl
last_of false false = refl
