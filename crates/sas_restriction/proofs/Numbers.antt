-- New numbers: of values among those that are left, and of variables among those that are shown.
use Rattle.std.proofs.Common.{◌≡◌, ◌≢◌, ℕ, suc, ◌<◌, ◌≤◌, Bool, true, false, cond, eqb, ltb, List, [], ◌∷◌, filter, length, get_or, ◌⊎◌, refl, sym, ◌∙◌, inl, inr, arith}
use Rattle.std.specs.List.{Contains, AllPairs, position_or_len}
use Rattle.std.proofs.lemmas.Bool.{cases_lt, lt-ltb, le-ltb, ltb-true, false≢true, eq-eqb, eqb-true}
use Rattle.std.proofs.lemmas.List.{get_or_default}
use Rattle.std.proofs.lemmas.List.Sums.{passes_at_first, fails_before_first}
use Rattle.lists.specs.Members.{is_among}
use Rattle.lists.proofs.Items.{told_contains, contains_told}
use Rattle.lists.proofs.Members.{no_member, member_cases}

-- how many values are below: two members have one number only if they are one
count_le : (xs : List ℕ) (x y : ℕ) → x ≤ y → length (filter (λ v. ltb v x) xs) ≤ length (filter (λ v. ltb v y) xs)
count_le [] x y le = omega arith
count_le (v ∷ xs) x y le = count_step (count_le xs x y le) (ltb v x) (ltb v y) (λ a. lt-ltb v y (let b = ltb-true v x a in omega arith))
  where
    count_step : length (filter (λ v. ltb v x) xs) ≤ length (filter (λ v. ltb v y) xs) → (a b : Bool) → (a ≡ true → b ≡ true) → length (cond a (v ∷ filter (λ v. ltb v x) xs) (filter (λ v. ltb v x) xs)) ≤ length (cond b (v ∷ filter (λ v. ltb v y) xs) (filter (λ v. ltb v y) xs))
    count_step rest true true so = omega arith
    count_step rest true false so = absurd (false≢true (so refl))
    count_step rest false true so = omega arith
    count_step rest false false so = rest

pub count_lt : (xs : List ℕ) (x y : ℕ) → x < y → Contains xs x → length (filter (λ v. ltb v x) xs) < length (filter (λ v. ltb v y) xs)
count_lt [] x y lt in' = absurd (no_member x in')
count_lt (v ∷ xs) x y lt in' = by_cases (count_le xs x y (omega arith)) (λ later. count_lt xs x y lt later) (member_cases v x xs in')
  where
    by_cases : length (filter (λ v. ltb v x) xs) ≤ length (filter (λ v. ltb v y) xs) → (Contains xs x → length (filter (λ v. ltb v x) xs) < length (filter (λ v. ltb v y) xs)) → (v ≡ x) ⊎ Contains xs x → length (cond (ltb v x) (v ∷ filter (λ v. ltb v x) xs) (filter (λ v. ltb v x) xs)) < length (cond (ltb v y) (v ∷ filter (λ v. ltb v y) xs) (filter (λ v. ltb v y) xs))
    by_cases le rest (inl same) = rw (le-ltb v x (omega arith), lt-ltb v y (omega arith)) (omega arith)
    by_cases le rest (inr later) = two (rest later) (ltb v x) (ltb v y) (λ a. lt-ltb v y (let b = ltb-true v x a in omega arith))
      where
        two : length (filter (λ v. ltb v x) xs) < length (filter (λ v. ltb v y) xs) → (a b : Bool) → (a ≡ true → b ≡ true) → length (cond a (v ∷ filter (λ v. ltb v x) xs) (filter (λ v. ltb v x) xs)) < length (cond b (v ∷ filter (λ v. ltb v y) xs) (filter (λ v. ltb v y) xs))
        two less true true so = omega arith
        two less true false so = absurd (false≢true (so refl))
        two less false true so = omega arith
        two less false false so = less

count_all : (xs : List ℕ) (x : ℕ) → length (filter (λ v. ltb v x) xs) ≤ length xs
count_all [] x = omega arith
count_all (v ∷ xs) x = step (count_all xs x) (ltb v x)
  where
    step : length (filter (λ v. ltb v x) xs) ≤ length xs → (a : Bool) → length (cond a (v ∷ filter (λ v. ltb v x) xs) (filter (λ v. ltb v x) xs)) ≤ suc (length xs)
    step rest true = omega arith
    step rest false = omega arith

pub count_some : (xs : List ℕ) (x : ℕ) → Contains xs x → length (filter (λ v. ltb v x) xs) < length xs
count_some [] x in' = absurd (no_member x in')
count_some (v ∷ xs) x in' = by_cases (count_all xs x) (λ later. count_some xs x later) (member_cases v x xs in')
  where
    by_cases : length (filter (λ v. ltb v x) xs) ≤ length xs → (Contains xs x → length (filter (λ v. ltb v x) xs) < length xs) → (v ≡ x) ⊎ Contains xs x → length (cond (ltb v x) (v ∷ filter (λ v. ltb v x) xs) (filter (λ v. ltb v x) xs)) < suc (length xs)
    by_cases le rest (inl same) = rw (le-ltb v x (omega arith)) (omega arith)
    by_cases le rest (inr later) = step (rest later) (ltb v x)
      where
        step : length (filter (λ v. ltb v x) xs) < length xs → (a : Bool) → length (cond a (v ∷ filter (λ v. ltb v x) xs) (filter (λ v. ltb v x) xs)) < suc (length xs)
        step less true = omega arith
        step less false = omega arith

pub one_number : (xs : List ℕ) (x y : ℕ) → Contains xs x → Contains xs y → length (filter (λ v. ltb v x) xs) ≡ length (filter (λ v. ltb v y) xs) → x ≡ y
one_number xs x y in-x in-y same =
    elim (cases_lt x y) [
      | inl lt ↦ let less = count_lt xs x y lt in-x in absurd (omega arith)
      | inr ge ↦ elim (cases_lt y x) [
        | inl gt ↦ let less = count_lt xs y x gt in-y in absurd (omega arith)
        | inr le ↦ omega arith
      ]
    ]

-- two members of a list with at most one item are one
pub one_member : {X : Type 0} (xs : List X) (x y : X) → Contains xs x → Contains xs y → length xs ≤ 1 → x ≡ y
one_member [] x y in-x in-y short = absurd (no_member x in-x)
one_member (a ∷ []) x y in-x in-y short =
    elim (member_cases a x [] in-x) [
      | inr none ↦ absurd (no_member x none)
      | inl at-x ↦ elim (member_cases a y [] in-y) [ inr none ↦ absurd (no_member y none) | inl at-y ↦ sym at-x ∙ at-y ]
    ]
one_member (a ∷ b ∷ xs) x y in-x in-y short = absurd (omega arith)

-- a number is in a list where one of the list's is the number
pub any_member : (x : ℕ) (xs : List ℕ) → is_among eqb xs x ≡ true → Contains xs x
any_member x xs = told_contains eqb eqb-true xs x

pub member_any : (x : ℕ) (xs : List ℕ) → Contains xs x → is_among eqb xs x ≡ true
member_any x xs = contains_told eqb (λ v. eq-eqb v v refl) xs x

-- the place of a member
abbrev pub place : List ℕ → ℕ → ℕ
place xs x = position_or_len (eqb x) xs

pub place_of : (xs : List ℕ) (x : ℕ) → Contains xs x → (place xs x < length xs) × (get_or xs (place xs x) 0 ≡ x)
place_of xs x in' =
    elim (cases_lt (place xs x) (length xs)) [
      | inl below ↦ (below, sym (eqb-true x (get_or xs (place xs x) 0) (passes_at_first (eqb x) xs 0 below)))
      | inr past ↦
          let low : in'.0 < length xs = in'.1 in
          let before : in'.0 < place xs x = omega arith in
          absurd (false≢true (sym (fails_before_first (eqb x) xs in'.0 x before) ∙ eq-eqb x (get_or xs in'.0 x) (sym in'.2)))
    ]

-- and the member at a place of a list with no repeats
pub at_place_of : (xs : List ℕ) (i : ℕ) → AllPairs (λ x y. x ≢ y) xs → i < length xs → place xs (get_or xs i 0) ≡ i
at_place_of xs i once low = by_order (place_of xs (get_or xs i 0) (i, low, get_or_default xs i (get_or xs i 0) 0 low)) (cases_lt (place xs (get_or xs i 0)) i) (cases_lt i (place xs (get_or xs i 0)))
  where
    by_order : (place xs (get_or xs i 0) < length xs) × (get_or xs (place xs (get_or xs i 0)) 0 ≡ get_or xs i 0) → (place xs (get_or xs i 0) < i) ⊎ (i ≤ place xs (get_or xs i 0)) → (i < place xs (get_or xs i 0)) ⊎ (place xs (get_or xs i 0) ≤ i) → place xs (get_or xs i 0) ≡ i
    by_order at (inl before) other = absurd (once (place xs (get_or xs i 0)) i 0 before low at.1)
    by_order at (inr le) (inl after) = absurd (once i (place xs (get_or xs i 0)) 0 after at.0 (sym at.1))
    by_order at (inr le) (inr ge) = omega arith
