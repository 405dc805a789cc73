-- A set of names, with the name of one item more.
use Rattle.std.proofs.Common.{◌≡◌, ℕ, ◌+◌, ◌<◌, Bool, false, ◌||◌, List, [], ◌∷◌, ◌++◌, length, take, get_or, sym, ap, ◌∙◌}
use Rattle.std.specs.List.{list_any}
use Rattle.std.proofs.lemmas.Cmp.{nat_list_eq_equiv}
use Rattle.std.proofs.lemmas.List.{take_more}
use Rattle.std.proofs.lemmas.List.Folds.{list_any-append}
use Rattle.std.proofs.Math.Bool.{or_assoc, or_comm, or-false}
use Rattle.pddl_syntax.specs.Words.{Name, is_same}
use Rattle.fault_positions.specs.Arguments.{AreThose}

or_last : (a b c : Bool) → (a || (b || c)) ≡ (b || (c || (a || false)))
or_last a b c = or_comm a (b || c) ∙ or_assoc b c a ∙ ap (λ x. b || (c || x)) (sym (or-false a))

module _ {X : Type 0} (name_of : X → Name) (start : Name → Bool) where
  -- the name is one of those at the start, or that of an item
  abbrev pub is_named : List X → Name → Bool
  is_named items name = start name || list_any (λ item. is_same (name_of item) name) items

  is_named_last : (items : List X) (item : X) (name : Name) → (is_same name (name_of item) || is_named items name) ≡ is_named (items ++ item ∷ []) name
  is_named_last items item name =
      ap (λ b. b || is_named items name) (nat_list_eq_equiv.symm name (name_of item))
      ∙ or_last (is_same (name_of item) name) (start name) (list_any (λ item. is_same (name_of item) name) items)
      ∙ ap (λ b. start name || b) (sym (list_any-append (λ item. is_same (name_of item) name) items (item ∷ [])))

  pub names_turn : (items : List X) (i : ℕ) (item : X) → i < length items → item ≡ get_or items i item
      → (names new_names : List Name) (name : Name) → name ≡ name_of item
      → ((other : Name) → list_any (is_same other) new_names ≡ (is_same other name || list_any (is_same other) names))
      → AreThose (is_named (take i items)) names
      → AreThose (is_named (take (i + 1) items)) new_names
  names_turn items i item within is_item names new_names name is_name added known = λ other.
      added other
      ∙ ap (λ b. is_same other name || b) (known other)
      ∙ ap (λ n. is_same other n || is_named (take i items) other) (is_name ∙ ap name_of is_item)
      ∙ is_named_last (take i items) (get_or items i item) other
      ∙ ap (λ items. is_named items other) (sym (take_more items i item within))
