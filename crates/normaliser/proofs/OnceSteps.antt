-- One item more of a list that has each item once.
use Rattle.std.proofs.Common.{◌≡◌, ℕ, Bool, true, false, List, [], ◌∷◌, ◌++◌, map, sym, ap, ◌∙◌, if◌then◌else◌}
use Rattle.std.specs.List.{list_any}
use Rattle.std.proofs.lemmas.List.{map-append}
use Rattle.lists.proofs.Items.{any_map, same_any}
use Rattle.names.specs.Names.{is_same}
use Rattle.pddl_syntax.specs.declared.types.Domain.{Domain}
use Rattle.pddl_syntax.specs.declared.types.Problem.{Problem}
use Rattle.normal_task.specs.Normalised.{once_after}
use Rattle.normal_task.proofs.OnceEach.{with_one, once-more}

module _ (domain : Domain) (problem : Problem) {A : Type 0} (same : A → A → Bool) where
  pub once-added : (items so_far : List A) → items ≡ once_after domain problem same [] so_far → (item : A) (items' : List A) →
      items' ≡ with_one domain problem same (list_any (same item) items) items item → items' ≡ once_after domain problem same [] (so_far ++ item ∷ [])
  once-added items so_far items_are item items' made =
      made ∙ ap (λ (l : List A). with_one domain problem same (list_any (same item) l) l item) items_are ∙ sym (once-more domain problem same so_far item)

  -- the same where the items are looked up by their keys
  module _ (key_of : A → List ℕ) (keyed : (a b : A) → is_same (key_of a) (key_of b) ≡ same a b)
      (keys : List (List ℕ)) (items so_far : List A) (keys_are : keys ≡ map key_of items) (items_are : items ≡ once_after domain problem same [] so_far) (item : A) (key : List ℕ) (key_is : key ≡ key_of item) where
    known-is : list_any (is_same key) keys ≡ list_any (same item) items
    known-is =
        ap (λ (k : List ℕ). list_any (is_same k) keys) key_is ∙ ap (list_any (is_same (key_of item))) keys_are ∙ any_map (is_same (key_of item)) key_of items
        ∙ same_any (λ (x : A). is_same (key_of item) (key_of x)) (same item) items (λ (x : A) _. keyed item x)

    keys-with : (known : Bool) → (if known then keys else keys ++ key ∷ []) ≡ map key_of (if known then items else items ++ item ∷ [])
    keys-with true = keys_are
    keys-with false = ap (λ (l : List (List ℕ)). l ++ key ∷ []) keys_are ∙ ap (λ (k : List ℕ). map key_of items ++ k ∷ []) key_is ∙ sym (map-append key_of items (item ∷ []))

    pub once-step : (keys' : List (List ℕ)) (items' : List A) → (keys' ≡ (if list_any (is_same key) keys then keys else keys ++ key ∷ [])) × (items' ≡ (if list_any (is_same key) keys then items else items ++ item ∷ [])) →
        (keys' ≡ map key_of items') × (items' ≡ once_after domain problem same [] (so_far ++ item ∷ []))
    once-step keys' items' made = (
      made.0 ∙ keys-with (list_any (is_same key) keys) ∙ ap (map key_of) (sym made.1),
      once-added items so_far items_are item items' (made.1 ∙ ap (λ b. with_one domain problem same b items item) known-is),
    )
