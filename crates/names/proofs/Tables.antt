-- Tables whose keys are borrowed names, beside the names themselves.
use Rattle.std.proofs.Common.{◌≡◌, ℕ, suc, ◌+◌, ◌<◌, Bool, true, false, not, cond, ◌||◌, List, [], ◌∷◌, ◌++◌, Some, None, map, length, get_or, nat_lt, Bor, refl, sym, ap, ◌∙◌, subst, arith, if◌then◌else◌}
use Rattle.std.specs.List.{list_any, position, position_or_len}
use Rattle.std.proofs.lemmas.List.{map_push}
use Rattle.lists.proofs.Items.{any_map}
use Rattle.names.specs.Names.{Name, is_same}
use Rattle.names.proofs.SameNames.{same_name, with_name, among_those}

abbrev pub Key : Type 0
Key = Bor (List ℕ)

pub list_any-now : (p : Name → Bool) (keys : List Key) → list_any p (map (λ key. key.now) keys) ≡ list_any (λ key. p key.now) keys
list_any-now p = any_map p (λ (key : Key). key.now)

pub position_or_len-now : (p : Name → Bool) (keys : List Key) → position_or_len p (map (λ key. key.now) keys) ≡ position_or_len (λ key. p key.now) keys
position_or_len-now p [] = refl
position_or_len-now p (key ∷ keys) = ap (λ n. cond (not (p key.now)) (1 + n) 0) (position_or_len-now p keys)

-- ---- one name more

-- the table with one key more
module _ (keys : List Key) (key : Key) (names : List Name) (is : map (λ key. key.now) keys ≡ names)
    (new_keys : List Key) (grown : new_keys ≡ (if list_any (λ known. is_same key.now known.now) keys then keys else keys ++ key ∷ [])) where
  pub names_after : map (λ key. key.now) new_keys ≡ with_name names key.now
  names_after =
      ap (map (λ (key : Key). key.now)) grown
      ∙ by (list_any (λ known. is_same key.now known.now) keys)
      ∙ ap (λ known. if known then map (λ key. key.now) keys else map (λ key. key.now) keys ++ key.now ∷ []) (sym (list_any-now (is_same key.now) keys))
      ∙ ap (λ known. with_name known key.now) is
    where
      by : (known : Bool) → map (λ key. key.now) (if known then keys else keys ++ key ∷ []) ≡ (if known then map (λ key. key.now) keys else map (λ key. key.now) keys ++ key.now ∷ [])
      by true = refl
      by false = map_push (λ (key : Key). key.now) keys key

  pub among_after : (other : Name) → list_any (is_same other) (map (λ key. key.now) new_keys) ≡ (is_same other key.now || list_any (is_same other) names)
  among_after other = ap (list_any (is_same other)) names_after ∙ among_those names key.now other

-- ---- positions

-- what `position` finds is the first place
pub position-place : (p : Key → Bool) (keys : List Key) (i : ℕ) → position p keys ≡ Some i → i ≡ position_or_len p keys
position-place p keys i found = by (nat_lt (position_or_len p keys) (length keys)) found
  where
    by : (within : Bool) → cond within (Some (position_or_len p keys)) None ≡ Some i → i ≡ position_or_len p keys
    by true found = cc
    by false found = cc

pub position-none : {X : Type 0} (p : X → Bool) (xs : List X) → list_any p xs ≡ false → position_or_len p xs ≡ length xs
position-none p [] none = refl
position-none p (x ∷ xs) none = by (p x) refl none (position-none p xs)
  where
    by : (here : Bool) → p x ≡ here → (here || list_any p xs) ≡ false → (list_any p xs ≡ false → position_or_len p xs ≡ length xs) → position_or_len p (x ∷ xs) ≡ length (x ∷ xs)
    by true e none rest = absurd cc
    by false e none rest =
        let behind : position_or_len p xs ≡ length xs = rest none in
        let last : 1 + position_or_len p xs ≡ length (x ∷ xs) = omega (arith, behind) in
        ap (λ h. cond (not h) (1 + position_or_len p xs) 0) e ∙ last

-- the name at the position of a name
pub name_at : (names : List Name) (name other : Name) → position_or_len (is_same name) names < length names → get_or names (position_or_len (is_same name) names) other ≡ name
name_at [] name other within = absurd (omega (arith, within))
name_at (one ∷ names) name other within = by (is_same name one) refl within (name_at names name other)
  where
    by : (here : Bool) → is_same name one ≡ here → cond (not (is_same name one)) (1 + position_or_len (is_same name) names) 0 < length (one ∷ names) →
        (position_or_len (is_same name) names < length names → get_or names (position_or_len (is_same name) names) other ≡ name) →
        get_or (one ∷ names) (position_or_len (is_same name) (one ∷ names)) other ≡ name
    by true e within rest = ap (λ h. get_or (one ∷ names) (cond (not h) (1 + position_or_len (is_same name) names) 0) other) e ∙ sym (same_name name one e)
    by false e within rest =
        let next : 1 + position_or_len (is_same name) names ≡ suc (position_or_len (is_same name) names) = omega arith in
        let inside : 1 + position_or_len (is_same name) names < length (one ∷ names) = subst (λ h. cond (not h) (1 + position_or_len (is_same name) names) 0 < length (one ∷ names)) e within in
        ap (λ h. get_or (one ∷ names) (cond (not h) (1 + position_or_len (is_same name) names) 0) other) e
        ∙ ap (λ (n : ℕ). get_or (one ∷ names) n other) next
        ∙ rest (omega (arith, inside))
