-- Tables whose keys are atoms, beside the atoms themselves.
use Rattle.std.proofs.Common.{◌≡◌, ℕ, suc, ◌+◌, ◌≤◌, Bool, true, false, not, ◌||◌, cond, inl, inr, List, [], ◌∷◌, ◌++◌, Some, None, map, take, length, nat_lt, get_or, refl, sym, ap, ◌∙◌, arith}
use Rattle.std.specs.Cmp.{both_ways}
use Rattle.std.specs.List.{list_any, position, position_or_len}
use Rattle.std.specs.List.Sorted.{IsSorted}
use Rattle.std.specs.Ordering.{is_lt}
use Rattle.std.proofs.lemmas.Bool.{cases_Bool, ltb-true, ltb-false, lt-ltb}
use Rattle.std.proofs.lemmas.Option.{none-some, same_Some}
use Rattle.std.proofs.lemmas.List.Sums.{prefix_len-le-length}
use Rattle.std.proofs.lemmas.List.{map_push, length-map, get_or-map, take_all}
use Rattle.std.proofs.lemmas.Simd.{map-map}
use Rattle.lists.proofs.Items.{any_map}
use Rattle.normal_task.specs.declared.task.GroundAtom.{GroundAtom}
use Rattle.normal_task.specs.Meaning.{is_same_atom}
use Rattle.reached_task.specs.AtomKeys.{Key, atom_of}
use Rattle.reached_task.specs.Reachable.{is_among, number_of, fact_cmp}
use Rattle.reached_task.specs.Rules.{added}

-- an item is found before the end where some item passes
found_within : {X : Type 0} (p : X → Bool) (xs : List X) → nat_lt (position_or_len p xs) (length xs) ≡ list_any p xs
found_within p [] = refl
found_within p (x ∷ xs) = elim (cases_Bool (p x)) [
  | inl is ↦
      let place : position_or_len p (x ∷ xs) ≡ 0 = ap (λ b. cond (not b) (1 + position_or_len p xs) 0) is in
      ap (λ n. nat_lt n (suc (length xs))) place ∙ lt-ltb 0 (suc (length xs)) (omega arith) ∙ sym (ap (λ b. b || list_any p xs) is)
  | inr out ↦
      let place : position_or_len p (x ∷ xs) ≡ 1 + position_or_len p xs = ap (λ b. cond (not b) (1 + position_or_len p xs) 0) out in
      ap (λ n. nat_lt n (suc (length xs))) place ∙ one_less (position_or_len p xs) (length xs) ∙ found_within p xs ∙ sym (ap (λ b. b || list_any p xs) out)
]
  where
    one_less : (a b : ℕ) → nat_lt (1 + a) (suc b) ≡ nat_lt a b
    one_less a b =
        both_ways (nat_lt (1 + a) (suc b)) (nat_lt a b)
        (λ e. let below = ltb-true (1 + a) (suc b) e in lt-ltb a b (omega (arith, below)))
        (λ e. let below = ltb-true a b e in lt-ltb (1 + a) (suc b) (omega (arith, below)))

pub position_is : (facts : List GroundAtom) (a : GroundAtom) → position (is_same_atom a) facts ≡ cond (is_among facts a) (Some (number_of facts a)) None
position_is facts a = ap (λ b. cond b (Some (number_of facts a)) None) (found_within (is_same_atom a) facts)

position_or_len-map : (test : GroundAtom → Bool) (keys : List Key) → position_or_len test (map atom_of keys) ≡ position_or_len (λ key. test (atom_of key)) keys
position_or_len-map test [] = refl
position_or_len-map test (key ∷ keys) = ap (λ n. cond (not (test (atom_of key))) (1 + n) 0) (position_or_len-map test keys)

module _ (keys : List Key) (atoms : List GroundAtom) (is : map atom_of keys ≡ atoms) where
  pub number_in_keys : (atom : GroundAtom) → position (λ key. is_same_atom atom (atom_of key)) keys ≡ cond (is_among atoms atom) (Some (number_of atoms atom)) None
  number_in_keys atom =
      ap (λ n. cond (nat_lt n (length keys)) (Some n) None) (sym (position_or_len-map (is_same_atom atom) keys))
      ∙ ap (λ m. cond (nat_lt (position_or_len (is_same_atom atom) (map atom_of keys)) m) (Some (position_or_len (is_same_atom atom) (map atom_of keys))) None) (sym (length-map keys atom_of))
      ∙ ap (position (is_same_atom atom)) is
      ∙ position_is atoms atom

  -- the place of the first key that is the atom, or the number of keys
  pub place_in_keys : (atom : GroundAtom) → position_or_len (λ key. is_same_atom atom (atom_of key)) keys ≡ number_of atoms atom
  place_in_keys atom = sym (position_or_len-map (is_same_atom atom) keys) ∙ ap (λ l. number_of l atom) is

  pub added_key : (key : Key) (new_keys : List Key) → new_keys ≡ cond (list_any (λ known. is_same_atom (atom_of key) (atom_of known)) keys) keys (keys ++ key ∷ []) → map atom_of new_keys ≡ added atoms (atom_of key)
  added_key key new_keys grown =
      ap (map atom_of) grown
      ∙ by (list_any (λ known. is_same_atom (atom_of key) (atom_of known)) keys)
      ∙ ap (λ known. cond known (map atom_of keys) (map atom_of keys ++ atom_of key ∷ [])) (sym (any_map (is_same_atom (atom_of key)) atom_of keys))
      ∙ ap (λ known. added known (atom_of key)) is
    where
      by : (known : Bool) → map atom_of (cond known keys (keys ++ key ∷ [])) ≡ cond known (map atom_of keys) (map atom_of keys ++ atom_of key ∷ [])
      by true = refl
      by false = map_push atom_of keys key

-- what a look-up of a place answers
pub found_place : {X : Type 0} (test : X → Bool) (xs : List X) (place : ℕ) → Some place ≡ position test xs → place ≡ position_or_len test xs
found_place test xs place e = elim (cases_Bool (nat_lt (position_or_len test xs) (length xs))) [
  | inl in' ↦ same_Some place (position_or_len test xs) (e ∙ ap (λ b. cond b (Some (position_or_len test xs)) None) in')
  | inr out ↦ absurd (none-some place (sym (e ∙ ap (λ b. cond b (Some (position_or_len test xs)) None) out)))
]

pub no_place : {X : Type 0} (test : X → Bool) (xs : List X) → None ≡ position test xs → length xs ≡ position_or_len test xs
no_place test xs e = elim (cases_Bool (nat_lt (position_or_len test xs) (length xs))) [
  | inl in' ↦ absurd (none-some (position_or_len test xs) (e ∙ ap (λ b. cond b (Some (position_or_len test xs)) None) in'))
  | inr out ↦
      let past = ltb-false (position_or_len test xs) (length xs) out in
      let most = prefix_len-le-length (λ x. not (test x)) xs in
      omega (arith, past, most)
]

-- keys in order are atoms in order
pub sorted_keys : (keys : List Key) → IsSorted (λ (a b : Key). fact_cmp (atom_of a) (atom_of b)) keys → IsSorted fact_cmp (map atom_of keys)
sorted_keys [] sorted k d low within = absurd (omega (arith, within))
sorted_keys (key ∷ more) sorted k d low within =
    let keys : List Key = key ∷ more in
    let size = length-map keys atom_of in
    let next = get_or-map atom_of keys (k + 1) key d (omega (arith, within, size)) in
    let here = get_or-map atom_of keys k key d (omega (arith, within, size)) in
    ap (λ a. is_lt (fact_cmp a (get_or (map atom_of keys) k d))) next ∙ ap (λ a. is_lt (fact_cmp (atom_of (get_or keys (k + 1) key)) a)) here ∙ sorted k key low (omega (arith, within, size))

-- what is made of each key's atom is made of each atom
pub made_of_keys : {X : Type 0} (make : GroundAtom → X) (keys : List Key) (atoms : List GroundAtom) → map atom_of keys ≡ atoms → (n : ℕ) → length keys ≤ n → map (λ key. make (atom_of key)) (take n keys) ≡ map make atoms
made_of_keys make keys atoms is n whole = ap (map (λ (key : Key). make (atom_of key))) (take_all n keys whole) ∙ sym (map-map make atom_of keys) ∙ ap (map make) is
