-- The rows of arcs by their sources, with one arc more.
use Rattle.std.proofs.Common.{◌≡◌, ℕ, ◌+◌, List, [], ◌∷◌, ◌++◌, nat_eq, sym, ap, ◌∙◌, arith}
use Rattle.std.specs.List.{filter, range_with_len}
use Rattle.std.proofs.lemmas.List.Elements.{filter-append}
use Rattle.lists.specs.Rows.{row_of, Adds}
use Rattle.lists.proofs.LoopSteps.{range_next}
use Rattle.lists.proofs.RowSteps.{at_number, both}
use Rattle.names.specs.declared.arcs.Arc.{Arc}
use Rattle.names.specs.Arcs.{arc_at, positions_from}

module _ (arcs : List Arc) (i : ℕ) where
  piece : (number : ℕ) → positions_from arcs (i + 1) number ≡ positions_from arcs i number ++ at_number (arc_at arcs i).from i number
  piece number =
      let e : 0 + i ≡ i = omega arith in
      ap (filter (λ position. nat_eq (arc_at arcs position).from number)) (range_next 0 i ∙ ap (λ k. range_with_len 0 i ++ k ∷ []) e)
      ∙ filter-append (λ position. nat_eq (arc_at arcs position).from number) (range_with_len 0 i) (i ∷ [])

  pub one_arc_more : (start rows new : List (List ℕ)) → Adds (positions_from arcs i) start rows → Adds (at_number (arc_at arcs i).from i) rows new → Adds (positions_from arcs (i + 1)) start new
  one_arc_more start rows new before one =
      let added = both (positions_from arcs i) (at_number (arc_at arcs i).from i) start rows new before one in
      record { count = added.count; row = λ number below. added.row number below ∙ ap (λ row. row_of start number ++ row) (sym (piece number)) }
