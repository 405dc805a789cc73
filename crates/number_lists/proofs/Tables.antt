-- Tables whose keys hold lists of numbers, beside the lists themselves.
use Rattle.std.proofs.Common.{◌≡◌, ℕ, Bool, true, false, List, [], ◌∷◌, ◌++◌, map, sym, ap, ◌∙◌, if◌then◌else◌}
use Rattle.std.specs.List.{list_any, IsDistinct, AllByRecursion}
use Rattle.std.proofs.lemmas.List.{map_push}
use Rattle.lists.proofs.Items.{any_map}
use Rattle.names.specs.Names.{is_same}
use Rattle.number_lists.specs.Sets.{has_list, with_list}

module _ {Key : Type 0} (held : Key → List ℕ) where
  -- a list is there where a key holds it
  pub has_held : (keys : List Key) (lists : List (List ℕ)) → map held keys ≡ lists → (list : List ℕ) → list_any (λ key. is_same list (held key)) keys ≡ has_list lists list
  has_held keys lists is list = sym (any_map (is_same list) held keys) ∙ ap (list_any (is_same list)) is

  -- the key is added to those that hold lists
  pub key_added : (keys new : List Key) (lists : List (List ℕ)) → map held keys ≡ lists → (key : Key) →
      new ≡ (if list_any (λ known. is_same (held key) (held known)) keys then keys else keys ++ key ∷ []) → map held new ≡ with_list lists (held key)
  key_added keys new lists is key grown =
      ap (map held) grown ∙ ap (λ b. map held (if b then keys else keys ++ key ∷ [])) (has_held keys lists is (held key)) ∙ by (has_list lists (held key))
    where
      by : (b : Bool) → map held (if b then keys else keys ++ key ∷ []) ≡ (if b then lists else lists ++ held key ∷ [])
      by true = is
      by false = map_push held keys key ∙ ap (λ ls. ls ++ held key ∷ []) is

  all_held : (list : List ℕ) (keys : List Key) → AllByRecursion (λ key. is_same list (held key) ≡ false) keys → AllByRecursion (λ other. is_same list other ≡ false) (map held keys)
  all_held list [] all = tt
  all_held list (key ∷ keys) all = (all.0, all_held list keys all.1)

  -- keys that differ hold lists that do
  pub distinct_held : (keys : List Key) → IsDistinct (λ a b. is_same (held a) (held b)) keys → IsDistinct is_same (map held keys)
  unfolding IsDistinct
  distinct_held [] apart = tt
  distinct_held (key ∷ keys) apart = (all_held (held key) keys apart.0, distinct_held keys apart.1)
