-- The marks in the order of their variables are those of the literals.
use Rattle.std.proofs.Common.{sym, ap, ◌∙◌}
use Rattle.std.specs.List.{filter_map, flat_map, list_any}
use Rattle.std.proofs.lemmas.List.Sorted.{list_any-IsPermutation}
use Rattle.fdr_effects.specs.Places.{places, first_place}
use Rattle.fdr_effects.proofs.literals.Marked.of.Goals as goal

pub invariant_of-result : goal.invariant_of-result
invariant_of-result c =
    let cover = c.args.index.now in
    let wanted = c.by_variable-wanted.result.items in
    let barred = c.by_variable-barred.result.items in
    record {
      wants = λ test. sym (ap (λ facts. list_any test (flat_map (places cover) facts)) (sym c.as_slice.ensures) ∙ ap (list_any test) (sym c.in_ok-all_places.ensures) ∙ list_any-IsPermutation test c.in_ok-all_places.field-0.items wanted c.by_variable-wanted.ensures.same);
      bars = λ test. sym (ap (λ facts. list_any test (filter_map (first_place cover) facts)) (sym c.as_slice-2.ensures) ∙ ap (list_any test) (sym c.in_ok-first_places.ensures) ∙ list_any-IsPermutation test c.in_ok-first_places.field-0.items barred c.by_variable-barred.ensures.same);
      wanted_in_order = c.by_variable-wanted.ensures.in_order;
      barred_in_order = c.by_variable-barred.ensures.in_order;
    }
