-- Names that are told to be the same are equal, and what is among names with one more.
use Rattle.std.proofs.Common.{◌≡◌, Bool, true, false, ◌||◌, List, [], ◌∷◌, ◌++◌, if◌then◌else◌, refl, sym, ap, ◌∙◌}
use Rattle.std.specs.Cmp.Lexicographic.{same_text}
use Rattle.std.specs.List.{list_any}
use Rattle.std.proofs.Math.Bool.{or_comm, or-false}
use Rattle.std.proofs.lemmas.Cmp.{nat_list_eq_equiv}
use Rattle.std.proofs.lemmas.List.Folds.{list_any-append}
use Rattle.std.proofs.lemmas.Map.Steps.{list_any_congr}
use Rattle.names.specs.Names.{Name, is_same}

pub same_name : (a b : Name) → is_same a b ≡ true → a ≡ b
same_name a b e = same_text a b (sym e)

-- the names with one more, unless it is there
abbrev pub with_name : List Name → Name → List Name
with_name names name = if list_any (is_same name) names then names else names ++ name ∷ []

pub among_those : (names : List Name) (name other : Name) → list_any (is_same other) (with_name names name) ≡ (is_same other name || list_any (is_same other) names)
among_those names name other = by (list_any (is_same name) names) refl (is_same other name) refl
  where
    by : (known : Bool) → list_any (is_same name) names ≡ known → (same : Bool) → is_same other name ≡ same →
        list_any (is_same other) (if known then names else names ++ name ∷ []) ≡ (same || list_any (is_same other) names)
    by true is true same = list_any_congr nat_list_eq_equiv other name names same ∙ is
    by true is false other_name = refl
    by false is same s =
        list_any-append (is_same other) names (name ∷ [])
        ∙ ap (λ b. list_any (is_same other) names || b) (or-false (is_same other name) ∙ s)
        ∙ or_comm (list_any (is_same other) names) same
