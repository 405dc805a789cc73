-- The first position of two lists that are joined.
use Rattle.std.proofs.Common.{◌≡◌, List, ◌++◌, Option, sym, ap, ◌∙◌}
use Rattle.pddl_lexer.specs.declared.position.At.{At}
use Rattle.fault_positions.specs.Positions.{earlier, earliest}
use Rattle.fault_positions.proofs.Earliest.{earliest_append}

pub earliest_of_both : (positions others : List At) (first second : Option At) → first ≡ earliest positions → second ≡ earliest others → earlier first second ≡ earliest (positions ++ others)
earliest_of_both positions others first second in_positions in_others = ap (λ (f : Option At). earlier f second) in_positions ∙ ap (earlier (earliest positions)) in_others ∙ sym (earliest_append positions others)
