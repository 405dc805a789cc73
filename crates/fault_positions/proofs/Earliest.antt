-- The first position of lists that are joined.
use Rattle.std.proofs.Common.{◌≡◌, ℕ, ◌+◌, ◌<◌, List, [], ◌∷◌, ◌++◌, take, length, get_or, Option, Some, None, refl, sym, ap, ◌∙◌}
use Rattle.std.specs.Prelude.{fold}
use Rattle.std.specs.List.{flat_map}
use Rattle.std.proofs.lemmas.List.{take_more}
use Rattle.std.proofs.lemmas.Grind.{flat_map-append}
use Rattle.pddl_lexer.specs.declared.position.At.{At}
use Rattle.pddl_lexer.specs.Positions.{earlier_of}
use Rattle.pddl_lexer.proofs.Positions.{earlier_chain as positions_chain}
use Rattle.fault_positions.specs.Positions.{earlier, earliest}

pub earlier_none : (at : Option At) → earlier at None ≡ at
earlier_none None = refl
earlier_none (Some at) = refl

pub earlier_chain : (a b c : Option At) → earlier (earlier a b) c ≡ earlier a (earlier b c)
earlier_chain None b c = refl
earlier_chain (Some a) None c = refl
earlier_chain (Some a) (Some b) None = refl
earlier_chain (Some a) (Some b) (Some c) = ap (λ (at : At). Some at) (positions_chain a b c)

fold_earlier : (a b : At) (positions : List At) → fold earlier_of (earlier_of a b) positions ≡ earlier_of a (fold earlier_of b positions)
fold_earlier a b [] = refl
fold_earlier a b (at ∷ positions) = ap (λ first. fold earlier_of first positions) (positions_chain a b at) ∙ fold_earlier a (earlier_of b at) positions

pub earliest_first : (at : At) (more : List At) → earliest (at ∷ more) ≡ earlier (Some at) (earliest more)
earliest_first at [] = refl
earliest_first at (other ∷ more) = ap (λ (first : At). Some first) (fold_earlier at other more)

pub earliest_append : (positions others : List At) → earliest (positions ++ others) ≡ earlier (earliest positions) (earliest others)
earliest_append [] others = refl
earliest_append (at ∷ positions) others =
    earliest_first at (positions ++ others) ∙ ap (earlier (Some at)) (earliest_append positions others) ∙ sym (earlier_chain (Some at) (earliest positions) (earliest others))
    ∙ ap (λ first. earlier first (earliest others)) (sym (earliest_first at positions))

-- the first position of what one item more gives
module _ {X : Type 0} (positions_of : X → List At) where
  pub earliest_then : (items : List X) (item : X) → earliest (flat_map positions_of (items ++ item ∷ [])) ≡ earlier (earliest (flat_map positions_of items)) (earliest (positions_of item))
  earliest_then items item =
      ap earliest (flat_map-append positions_of items (item ∷ []))
      ∙ earliest_append (flat_map positions_of items) (positions_of item ++ [])
      ∙ ap (earlier (earliest (flat_map positions_of items))) (earliest_append (positions_of item) [] ∙ earlier_none (earliest (positions_of item)))

  pub earliest_more : (items : List X) (i : ℕ) (item : X) → i < length items →
      earliest (flat_map positions_of (take (i + 1) items)) ≡ earlier (earliest (flat_map positions_of (take i items))) (earliest (positions_of (get_or items i item)))
  earliest_more items i item within = ap (λ (xs : List X). earliest (flat_map positions_of xs)) (take_more items i item within) ∙ earliest_then (take i items) (get_or items i item)
