-- Names that stand a second time, of a list and the names before it.
use Rattle.std.proofs.Common.{◌≡◌, ℕ, ◌+◌, ◌<◌, ◌||◌, List, [], ◌∷◌, ◌++◌, map, length, drop, get_or, Option, refl, sym, ap, ◌∙◌}
use Rattle.std.specs.Prelude.{if◌then◌else◌}
use Rattle.std.specs.List.{list_any}
use Rattle.std.proofs.lemmas.List.{drop_more}
use Rattle.pddl_lexer.specs.declared.position.At.{At}
use Rattle.pddl_syntax.specs.declared.types.Named.{Named}
use Rattle.pddl_syntax.specs.Words.{Name, is_same}
use Rattle.fault_positions.specs.Positions.{earlier, earliest}
use Rattle.fault_positions.specs.Names.{repeats_after}
use Rattle.fault_positions.proofs.Earliest.{earlier_chain, earliest_append}

-- two sets of the same names
abbrev pub Alike : List Name → List Name → Type 0
Alike before other = (name : Name) → list_any (is_same name) before ≡ list_any (is_same name) other

pub repeats_alike : (before other : List Name) → Alike before other → (names : List Named) → repeats_after before names ≡ repeats_after other names
repeats_alike before other alike [] = refl
repeats_alike before other alike (named ∷ names) =
    ap (λ b. (if b then named.at ∷ [] else []) ++ repeats_after (named.name ∷ before) names) (alike named.name)
    ∙ ap (λ (positions : List At). (if list_any (is_same named.name) other then named.at ∷ [] else []) ++ positions)
    (repeats_alike (named.name ∷ before) (named.name ∷ other) (λ name. ap (λ b. is_same name named.name || b) (alike name)) names)

-- one turn of a loop over a list, each of whose items has a name
module _ {X : Type 0} (name_of : X → Named) where
  abbrev pub left : List Name → List X → Option At
  left before xs = earliest (repeats_after before (map name_of xs))

  pub repeat_turn : (xs : List X) (i : ℕ) (x : X) (before after : List Name) (first at next whole : Option At) → i < length xs → x ≡ get_or xs i x →
      ((other : Name) → list_any (is_same other) after ≡ (is_same other (name_of x).name || list_any (is_same other) before)) →
      at ≡ earliest (if list_any (is_same (name_of x).name) before then (name_of x).at ∷ [] else []) →
      next ≡ earlier first at → earlier first (left before (drop i xs)) ≡ whole → earlier next (left after (drop (i + 1) xs)) ≡ whole
  repeat_turn xs i x before after first at next whole within item added here made held =
      ap (λ (l : Option At). earlier l (left after (drop (i + 1) xs))) made
      ∙ earlier_chain first at (left after (drop (i + 1) xs))
      ∙ ap (earlier first)
      (ap (λ (l : Option At). earlier l (left after (drop (i + 1) xs))) here
      ∙ ap (earlier (earliest here_positions)) (ap earliest (repeats_alike after (named.name ∷ before) added (map name_of (drop (i + 1) xs))))
      ∙ sym (earliest_append here_positions (repeats_after (named.name ∷ before) (map name_of (drop (i + 1) xs))))
      ∙ sym (ap (left before) (drop_more xs i x within ∙ ap (λ y. y ∷ drop (i + 1) xs) (sym item))))
      ∙ held
    where
      named : Named
      named = name_of x

      here_positions : List At
      here_positions = if list_any (is_same named.name) before then named.at ∷ [] else []
