-- One round of a loop that looks for the first position.
use Rattle.std.proofs.Common.{◌≡◌, ℕ, ◌+◌, ◌<◌, List, take, length, get_or, Option, sym, ap, ◌∙◌}
use Rattle.std.specs.List.{flat_map}
use Rattle.pddl_lexer.specs.declared.position.At.{At}
use Rattle.fault_positions.specs.Positions.{earlier, earliest}
use Rattle.fault_positions.proofs.Earliest.{earliest_more}

module _ {X : Type 0} (positions_of : X → List At) (items : List X) (i : ℕ) (item : X) (within : i < length items) (is : item ≡ get_or items i item) where
  pub first_after : (before now here : Option At) → before ≡ earliest (flat_map positions_of (take i items)) → here ≡ earliest (positions_of item) → now ≡ earlier before here →
      now ≡ earliest (flat_map positions_of (take (i + 1) items))
  first_after before now here held in_item made =
      made
      ∙ ap (λ first. earlier first here) held
      ∙ ap (earlier (earliest (flat_map positions_of (take i items)))) (in_item ∙ ap (λ (x : X). earliest (positions_of x)) is)
      ∙ sym (earliest_more positions_of items i item within)
