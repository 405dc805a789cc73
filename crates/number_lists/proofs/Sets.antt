-- What a set of lists has with one list more.
use Rattle.std.proofs.Common.{◌≡◌, ℕ, Bool, true, false, ◌||◌, List, [], ◌∷◌, ◌++◌, refl, ap, ◌∙◌, if◌then◌else◌}
use Rattle.lists.proofs.Items.{any_append, or_last}
use Rattle.names.specs.Names.{is_same}
use Rattle.names.proofs.SameNames.{same_name}
use Rattle.number_lists.specs.Sets.{has_list, with_list}

-- it has this list and those of before
pub has_with : (lists : List (List ℕ)) (list other : List ℕ) → has_list (with_list lists list) other ≡ (is_same other list || has_list lists other)
has_with lists list other = by (has_list lists list) refl
  where
    again : (b : Bool) → is_same other list ≡ b → has_list lists list ≡ true → has_list lists other ≡ (b || has_list lists other)
    again true same known = ap (has_list lists) (same_name other list same) ∙ known
    again false differs known = refl

    by : (b : Bool) → has_list lists list ≡ b → has_list (if b then lists else lists ++ list ∷ []) other ≡ (is_same other list || has_list lists other)
    by true known = again (is_same other list) refl known
    by false new = any_append (is_same other) lists (list ∷ []) ∙ or_last (has_list lists other) (is_same other list)
