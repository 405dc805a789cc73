-- Lists with each item once: what keeps them so, how many items they have, and where these stand.
use Rattle.std.proofs.Common.{◌≡◌, ℕ, zero, suc, ◌+◌, ◌<◌, ◌≤◌, Bool, true, false, ◌⊎◌, inl, inr, List, [], ◌∷◌, ◌++◌, map, length, get_or, refl, sym, ap, ◌∙◌, subst, arith}
use Rattle.std.specs.Prelude.{nat_eq}
use Rattle.std.specs.List.{list_any, filter, flat_map, range_with_len, position_or_len}
use Rattle.std.proofs.lemmas.Bool.{true≢false, eqb-true, eq-eqb, ne_eqb, cases_Bool, cases_eq}
use Rattle.std.proofs.lemmas.List.Sums.{position_or_len_is}
use Rattle.lists.proofs.Items.{Among, among_at, among_left, among_right, map_source, flat_map_piece, among_which, filter_among, filter_yes, filter_no, passing, any_passes, taken_out, one_fewer, out_or_left}

-- no item stands in the list twice
abbrev pub Once : {X : Type 0} → List X → Type 0
Once [] = Unit {0}
Once (x ∷ xs) = (Among x xs → ⊥) × Once xs

pub once_append : {X : Type 0} (xs ys : List X) → Once xs → Once ys → ((x : X) → Among x xs → Among x ys → ⊥) → Once (xs ++ ys)
once_append [] ys first second apart = second
once_append (x ∷ xs) ys first second apart =
    (λ there. elim (among_which x xs ys there) [ inl here ↦ first.0 here | inr behind ↦ apart x (inl refl) behind ], once_append xs ys first.1 second (λ y there. apart y (inr there)))

pub once_filter : {X : Type 0} (test : X → Bool) (xs : List X) → Once xs → Once (filter test xs)
once_filter test [] once = tt
once_filter test (x ∷ xs) once = by (cases_Bool (test x)) (once_filter test xs once.1)
  where
    by : (test x ≡ true) ⊎ (test x ≡ false) → Once (filter test xs) → Once (filter test (x ∷ xs))
    by (inl is) rest = subst Once (sym (filter_yes test x xs is)) (λ there. once.0 (filter_among test x xs there).0, rest)
    by (inr not) rest = subst Once (sym (filter_no test x xs not)) rest

pub once_map : {X Y : Type 0} (f : X → Y) (xs : List X) → ((x y : X) → Among x xs → Among y xs → f x ≡ f y → x ≡ y) → Once xs → Once (map f xs)
once_map f [] apart once = tt
once_map f (x ∷ xs) apart once = (
  λ there. let from = map_source f xs (f x) there in once.0 (subst (λ y. Among y xs) (sym (apart x from.source (inl refl) (inr from.among) (sym from.gives))) from.among),
  once_map f xs (λ a b in-a in-b. apart a b (inr in-a) (inr in-b)) once.1,
)

pub once_flat_map : {X Y : Type 0} (f : X → List Y) (xs : List X) → Once xs → ((x : X) → Among x xs → Once (f x)) →
    ((x y : X) (item : Y) → Among x xs → Among y xs → Among item (f x) → Among item (f y) → x ≡ y) → Once (flat_map f xs)
once_flat_map f [] once each apart = tt
once_flat_map f (x ∷ xs) once each apart =
    once_append (f x) (flat_map f xs) (each x (inl refl)) (once_flat_map f xs once.1 (λ y there. each y (inr there)) (λ a b item in-a in-b. apart a b item (inr in-a) (inr in-b)))
    (λ item here behind. let piece = flat_map_piece f xs item behind in
    once.0 (subst (λ y. Among y xs) (sym (apart x piece.source item (inl refl) (inr piece.among) here piece.inside)) piece.among))

-- joined lists
pub once_front : {X : Type 0} (xs ys : List X) → Once (xs ++ ys) → Once xs
once_front [] ys once = tt
once_front (x ∷ xs) ys once = (λ there. once.0 (among_left x xs ys there), once_front xs ys once.1)

pub once_behind : {X : Type 0} (xs ys : List X) → Once (xs ++ ys) → Once ys
once_behind [] ys once = once
once_behind (x ∷ xs) ys once = once_behind xs ys once.1

pub once_apart : {X : Type 0} (xs ys : List X) → Once (xs ++ ys) → (x : X) → Among x xs → Among x ys → ⊥
once_apart [] ys once x none there = none
once_apart (first ∷ xs) ys once x (inl here) there = once.0 (among_right first xs ys (subst (λ y. Among y ys) (sym here) there))
once_apart (first ∷ xs) ys once x (inr behind) there = once_apart xs ys once.1 x behind there

-- ---- ranges of numbers

pub among_range : (start count number : ℕ) → Among number (range_with_len start count) → (start ≤ number) × (number < start + count)
among_range start zero number none = absurd none
among_range start (suc count) number (inl here) = (omega arith, omega arith)
among_range start (suc count) number (inr there) = let rest = among_range (start + 1) count number there in (omega arith, omega arith)

pub range_among : (start count number : ℕ) → start ≤ number → number < start + count → Among number (range_with_len start count)
range_among start zero number low high = absurd (omega (arith, low, high))
range_among start (suc count) number low high = by (cases_eq start number) (range_among (start + 1) count number)
  where
    by : (start ≡ number) ⊎ (start ≡ number → ⊥) → (start + 1 ≤ number → number < start + 1 + count → Among number (range_with_len (start + 1) count)) → Among number (range_with_len start (suc count))
    by (inl here) rest = inl here
    by (inr other) rest = inr (rest (omega (arith, low, other)) (omega (arith, high)))

pub once_range : (start count : ℕ) → Once (range_with_len start count)
once_range start zero = tt
once_range start (suc count) = (λ there. let low = (among_range (start + 1) count start there).0 in absurd (omega (arith, low)), once_range (start + 1) count)

-- ---- how many items

-- a list with each item once is no longer than one with all its items
pub no_longer : {X : Type 0} (xs ys : List X) → Once xs → ((x : X) → Among x xs → Among x ys) → length xs ≤ length ys
no_longer [] ys once in' = omega arith
no_longer (x ∷ xs) ys once in' =
    let first = in' x (inl refl) in
    let rest = no_longer xs (taken_out x ys first) once.1 (λ y there. left y there (out_or_left x ys first y (in' y (inr there)))) in
    let fewer = one_fewer x ys first in
    omega (arith, rest, fewer)
  where
    left : (y : _) → Among y xs → (x ≡ y) ⊎ Among y (taken_out x ys (in' x (inl refl))) → Among y (taken_out x ys (in' x (inl refl)))
    left y there (inl same) = absurd (once.0 (subst (λ z. Among z xs) (sym same) there))
    left y there (inr is) = is

-- where such a list lies in one that is no longer, it has all its items
pub all_there : (xs ys : List ℕ) → Once xs → ((x : ℕ) → Among x xs → Among x ys) → length ys ≤ length xs → (y : ℕ) → Among y ys → Among y xs
all_there xs ys once in' many y there = by (cases_Bool (list_any (nat_eq y) xs))
  where
    by : (list_any (nat_eq y) xs ≡ true) ⊎ (list_any (nat_eq y) xs ≡ false) → Among y xs
    by (inl is) = let found = passing (nat_eq y) xs is in subst (λ z. Among z xs) (sym (eqb-true y found.item found.passes)) found.among
    by (inr isnt) =
        let longer = no_longer (y ∷ xs) ys (λ here. true≢false (sym (any_passes (nat_eq y) y xs here (eq-eqb y y refl)) ∙ isnt), once) (λ x in''. elim in'' [ inl here ↦ subst (λ z. Among z ys) here there | inr behind ↦ in' x behind ]) in
        absurd (omega (arith, longer, many))

-- ---- places of items

pub same_place : {X : Type 0} (xs : List X) (other : X) (i j : ℕ) → Once xs → i < length xs → j < length xs → get_or xs i other ≡ get_or xs j other → i ≡ j
same_place [] other i j once first second same = absurd (omega (arith, first))
same_place (x ∷ xs) other zero zero once first second same = refl
same_place (x ∷ xs) other zero (suc j) once first second same = absurd (once.0 (subst (λ y. Among y xs) (sym same) (among_at xs j other (omega (arith, second)))))
same_place (x ∷ xs) other (suc i) zero once first second same = absurd (once.0 (subst (λ y. Among y xs) same (among_at xs i other (omega (arith, first)))))
same_place (x ∷ xs) other (suc i) (suc j) once first second same =
    ap (λ (n : ℕ). suc n) (same_place xs other i j once.1 (omega (arith, first)) (omega (arith, second)) same)

-- where an item stands
pub record Standing {X : Type 0} (xs : List X) (other item : X) : Type 0 where
  pub place : ℕ
  pub within : place < length xs
  pub is : get_or xs place other ≡ item

pub standing : {X : Type 0} (xs : List X) (other item : X) → Among item xs → Standing xs other item
standing [] other item none = absurd none
standing (x ∷ xs) other item (inl here) = record { place = 0; within = omega arith; is = here }
standing (x ∷ xs) other item (inr there) = let rest = standing xs other item there in record { place = suc rest.place; within = omega (arith, rest.within); is = rest.is }

-- an item of a list with each item once stands where it is found
pub position_once : (xs : List ℕ) (place : ℕ) → Once xs → place < length xs → position_or_len (nat_eq (get_or xs place 0)) xs ≡ place
position_once xs place once within =
    position_or_len_is (nat_eq (get_or xs place 0)) xs place 0 (omega (arith, within)) (λ k before. ne_eqb (get_or xs place 0) (get_or xs k 0) (λ same. apart k before (same_place xs 0 place k once within (omega (arith, before, within)) same)))
    (λ in'. eq-eqb (get_or xs place 0) (get_or xs place 0) refl)
  where
    apart : (k : ℕ) → k < place → place ≡ k → ⊥
    apart k before same = absurd (omega (arith, before, same))

pub found : (xs : List ℕ) (number : ℕ) → Once xs → Among number xs → (position_or_len (nat_eq number) xs < length xs) × (get_or xs (position_or_len (nat_eq number) xs) 0 ≡ number)
found xs number once there =
    let at = standing xs 0 number there in
    let place = ap (λ n. position_or_len (nat_eq n) xs) (sym at.is) ∙ position_once xs at.place once at.within in
    (subst (λ n. n < length xs) (sym place) at.within, ap (λ n. get_or xs n 0) place ∙ at.is)

-- two lists of numbers are equal where they have as many, and the same at each place
pub same_at_each : (xs ys : List ℕ) → length xs ≡ length ys → ((i : ℕ) → i < length xs → get_or xs i 0 ≡ get_or ys i 0) → xs ≡ ys
same_at_each [] [] as_long each = refl
same_at_each [] (y ∷ ys) as_long each = absurd (omega (arith, as_long))
same_at_each (x ∷ xs) [] as_long each = absurd (omega (arith, as_long))
same_at_each (x ∷ xs) (y ∷ ys) as_long each =
    let first : x ≡ y = each 0 (omega arith) in
    let rest = same_at_each xs ys (omega (arith, as_long)) (λ i within. each (suc i) (omega (arith, within))) in
    cc (first, rest)

-- equal images of equal lists
pub same_image : {X Y : Type 0} (f g : X → Y) (xs : List X) → map f xs ≡ map g xs → (x : X) → Among x xs → f x ≡ g x
same_image f g [] same x none = absurd none
same_image {X = X} f g (x ∷ xs) same item there = by there (same_image f g xs rest item)
  where
    first : f x ≡ g x
    first = cc same

    rest : map f xs ≡ map g xs
    rest = cc same

    by : (x ≡ item) ⊎ Among item xs → (Among item xs → f item ≡ g item) → f item ≡ g item
    by (inl here) behind = subst (λ y. f y ≡ g y) here first
    by (inr there') behind = behind there'
