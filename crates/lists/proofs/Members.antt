-- Members of lists, by std's word for them, `Contains`: what `Items` proves of `Among`, said again.
use Rattle.std.proofs.Common.{◌≡◌, ℕ, ◌+◌, ◌<◌, Bool, true, false, cond, Some, None, List, [], ◌∷◌, ◌++◌, map, filter, get_or, ◌⊎◌, refl, sym, ap, ◌∙◌, subst, inl, inr, arith}
use Rattle.std.specs.List.{Contains, All, AllZip, flat_map, range_with_len, list_any, list_all, find, slice_get}
use Rattle.std.proofs.lemmas.Bool.{cases_Bool}
use Rattle.std.proofs.lemmas.Option.{same_Some, none-some, slice_get_within, get_or_from_slice_get}
use Rattle.std.proofs.lemmas.List.Elements.{Contains-append_left, Contains-append_right, Contains-get_or, All-contains}
use Rattle.std.proofs.lemmas.List.FromFn.{length-range_with_len, get_or-range_with_len}
use Rattle.lists.proofs.Items.{among_contains, contains_among, among_map, map_source, among_filter, filter_among, filter_yes, filter_no, among_flat_map, flat_map_piece, any_passes, passing}
use Rattle.lists.proofs.Items as items

pub no_member : {X : Type 0} (x : X) → Contains {X = X} [] x → ⊥
no_member x in' = absurd (omega (arith, in'.1))

pub member_first : {X : Type 0} (x : X) (xs : List X) → Contains (x ∷ xs) x
member_first x xs = (0, omega arith, refl)

pub member_later : {X : Type 0} (x y : X) (xs : List X) → Contains xs y → Contains (x ∷ xs) y
member_later x y xs in' = Contains-append_right (x ∷ []) xs y in'

pub member_cases : {X : Type 0} (x y : X) (xs : List X) → Contains (x ∷ xs) y → (x ≡ y) ⊎ Contains xs y
member_cases x y xs in' =
    elim (among_contains (x ∷ xs) y in') [ inl here ↦ inl here | inr there ↦ inr (contains_among xs y there) ]

pub member_single : {X : Type 0} (x y : X) → Contains (x ∷ []) y → x ≡ y
member_single x y in' = elim (member_cases x y [] in') [ inl same ↦ same | inr none ↦ absurd (no_member y none) ]

-- ---- mapped and filtered lists, and joined pieces

pub member_map : {X Y : Type 0} (f : X → Y) (xs : List X) (x : X) → Contains xs x → Contains (map f xs) (f x)
member_map f xs x in' = contains_among (map f xs) (f x) (among_map f x xs (among_contains xs x in'))

pub map_member : {X Y : Type 0} (f : X → Y) (xs : List X) (y : Y) → Contains (map f xs) y → (x : X) × Contains xs x × (f x ≡ y)
map_member f xs y in' = let from = map_source f xs y (among_contains (map f xs) y in') in (from.source, contains_among xs from.source from.among, from.gives)

pub member_filter : {X : Type 0} (p : X → Bool) (xs : List X) (x : X) → Contains xs x → p x ≡ true → Contains (filter p xs) x
member_filter p xs x in' passes = contains_among (filter p xs) x (among_filter p x xs (among_contains xs x in') passes)

-- where each passes, all stay; where none does, none
pub filter_every : {X : Type 0} (p : X → Bool) (xs : List X) → ((x : X) → Contains xs x → p x ≡ true) → filter p xs ≡ xs
filter_every p [] all = refl
filter_every p (x ∷ xs) all = filter_yes p x xs (all x (member_first x xs)) ∙ ap (λ ys. x ∷ ys) (filter_every p xs (λ y in'. all y (member_later x y xs in')))

pub filter_none : {X : Type 0} (p : X → Bool) (xs : List X) → ((x : X) → Contains xs x → p x ≡ false) → filter p xs ≡ []
filter_none p [] none = refl
filter_none p (x ∷ xs) none = filter_no p x xs (none x (member_first x xs)) ∙ filter_none p xs (λ y in'. none y (member_later x y xs in'))

pub filter_member : {X : Type 0} (p : X → Bool) (xs : List X) (x : X) → Contains (filter p xs) x → Contains xs x × (p x ≡ true)
filter_member p xs x in' = let from = filter_among p x xs (among_contains (filter p xs) x in') in (contains_among xs x from.0, from.1)

pub member_flat_map : {X Y : Type 0} (f : X → List Y) (xs : List X) (x : X) (y : Y) → Contains xs x → Contains (f x) y → Contains (flat_map f xs) y
member_flat_map f xs x y in' here = contains_among (flat_map f xs) y (among_flat_map f x y xs (among_contains xs x in') (among_contains (f x) y here))

pub flat_map_member : {X Y : Type 0} (f : X → List Y) (xs : List X) (y : Y) → Contains (flat_map f xs) y → (x : X) × Contains xs x × Contains (f x) y
flat_map_member f xs y in' =
    let from = flat_map_piece f xs y (among_contains (flat_map f xs) y in') in
    (from.source, contains_among xs from.source from.among, contains_among (f from.source) y from.inside)

pub member_range : (n i : ℕ) → i < n → Contains (range_with_len 0 n) i
member_range n i below =
    let e : get_or (range_with_len 0 n) i i ≡ 0 + i = get_or-range_with_len 0 n i i below in
    let z : 0 + i ≡ i = omega arith in
    (i, rw length-range_with_len below, e ∙ z)

pub range_member : (n i : ℕ) → Contains (range_with_len 0 n) i → i < n
range_member n i in' =
    let below : in'.0 < n = subst (λ m. in'.0 < m) (length-range_with_len 0 n) in'.1 in
    let e : get_or (range_with_len 0 n) in'.0 i ≡ 0 + in'.0 = get_or-range_with_len 0 n in'.0 i below in
    let same : get_or (range_with_len 0 n) in'.0 i ≡ i = in'.2 in
    omega arith

-- ---- tests of all members, and of some

pub all_pass : {X : Type 0} (p : X → Bool) (xs : List X) (x : X) → list_all p xs ≡ true → Contains xs x → p x ≡ true
all_pass p xs x all in' = items.all_passes p x xs (among_contains xs x in') all

pub each_passes : {X : Type 0} (p : X → Bool) (xs : List X) → ((x : X) → Contains xs x → p x ≡ true) → list_all p xs ≡ true
each_passes p xs each = items.each_passes p xs (λ x among. each x (contains_among xs x among))

pub list_all_same : {X : Type 0} (p q : X → Bool) (xs : List X) → ((x : X) → Contains xs x → p x ≡ q x) → list_all p xs ≡ list_all q xs
list_all_same p q xs same = items.same_all p q xs (λ x among. same x (contains_among xs x among))

pub any_member : {X : Type 0} (p : X → Bool) (xs : List X) → list_any p xs ≡ true → (x : X) × Contains xs x × (p x ≡ true)
any_member p xs some = let found = passing p xs some in (found.item, contains_among xs found.item found.among, found.passes)

pub member_any : {X : Type 0} (p : X → Bool) (xs : List X) (x : X) → Contains xs x → p x ≡ true → list_any p xs ≡ true
member_any p xs x in' passes = any_passes p x xs (among_contains xs x in') passes

-- a fact of each member holds of all
pub all_from_members : {X : Type 0} (P : X → Type 0) (xs : List X) → ((x : X) → Contains xs x → P x) → All P xs
all_from_members P xs each k d below = each (get_or xs k d) (Contains-get_or xs k d below)

-- tests that say the same of each member keep the same members
pub same_filter : {X : Type 0} (p q : X → Bool) (xs : List X) → ((x : X) → Contains xs x → p x ≡ q x) → filter p xs ≡ filter q xs
same_filter p q xs same = items.same_filter p q xs (λ x among. same x (contains_among xs x among))

-- what holds of all of joined lists holds of all of each
pub all_front : {X : Type 0} (P : X → Type 0) (xs ys : List X) → All P (xs ++ ys) → All P xs
all_front P xs ys all = all_from_members P xs (λ x in'. All-contains P (xs ++ ys) x all (Contains-append_left xs ys x in'))

pub all_behind : {X : Type 0} (P : X → Type 0) (xs ys : List X) → All P (xs ++ ys) → All P ys
all_behind P xs ys all = all_from_members P ys (λ y in'. All-contains P (xs ++ ys) y all (Contains-append_right xs ys y in'))

-- ---- the first member that passes

-- what is found is a member that passes, and where nothing is found none passes
pub find_found : {X : Type 0} (p : X → Bool) (xs : List X) (x : X) → find p xs ≡ Some x → Contains xs x × (p x ≡ true)
find_found p [] x found = absurd (none-some x found)
find_found p (y ∷ xs) x found =
    elim (cases_Bool (p y)) [
      | inl passes ↦
          let same : y ≡ x = same_Some y x (sym (ap (λ b. cond b (Some y) (find p xs)) passes) ∙ found) in
          (subst (λ z. Contains (y ∷ xs) z) same (member_first y xs), subst (λ z. p z ≡ true) same passes)
      | inr fails ↦
          let r = find_found p xs x (sym (ap (λ b. cond b (Some y) (find p xs)) fails) ∙ found) in
          (member_later y x xs r.0, r.1)
    ]

pub find_nothing : {X : Type 0} (p : X → Bool) (xs : List X) → find p xs ≡ None → (x : X) → Contains xs x → p x ≡ false
find_nothing p [] none x in' = absurd (no_member x in')
find_nothing p (y ∷ xs) none x in' =
    elim (cases_Bool (p y)) [
      | inl passes ↦ absurd (none-some y (sym none ∙ ap (λ b. cond b (Some y) (find p xs)) passes))
      | inr fails ↦ elim (member_cases y x xs in') [
        | inl same ↦ subst (λ z. p z ≡ false) same fails
        | inr later ↦ find_nothing p xs (sym (ap (λ b. cond b (Some y) (find p xs)) fails) ∙ none) x later
      ]
    ]

-- two tests that agree at each member find the same member
pub find_same : {X : Type 0} (p q : X → Bool) (xs : List X) → ((x : X) → Contains xs x → p x ≡ q x) → find p xs ≡ find q xs
find_same p q [] same = refl
find_same p q (x ∷ xs) same =
    ap (λ b. cond b (Some x) (find p xs)) (same x (member_first x xs))
    ∙ ap (λ o. cond (q x) (Some x) o) (find_same p q xs (λ y in'. same y (member_later x y xs in')))

-- ---- an item at a place, and lists that agree place by place

pub got_member : {X : Type 0} (xs : List X) (i : ℕ) (x : X) → slice_get xs i ≡ Some x → Contains xs x
got_member xs i x at = (i, slice_get_within xs i x at, get_or_from_slice_get xs i x x at)

pub zip_source : {A B : Type 0} (R : A → B → Type 0) (xs : List A) (ys : List B) (y : B) → AllZip R xs ys → Contains ys y → (x : A) × Contains xs x × R x y
zip_source R [] [] y all in' = absurd (no_member y in')
zip_source R [] (z ∷ ys) y all in' = absurd all
zip_source R (x ∷ xs) [] y all in' = absurd all
zip_source R (x ∷ xs) (z ∷ ys) y all in' =
    elim (member_cases z y ys in') [
      | inl same ↦ (x, member_first x xs, subst (R x) same all.0)
      | inr later ↦ let r = zip_source R xs ys y all.1 later in (r.0, member_later x r.0 xs r.1, r.2)
    ]
