use Rattle.std.proofs.Common.{sym, ap, ◌∙◌}
use Rattle.std.specs.List.{list_any}
use Rattle.std.proofs.lemmas.List.Sorted.{list_any-IsPermutation}
use Rattle.invariant_check.specs.Touched.{adds_from}
use Rattle.invariant_check.proofs.adds.AddTable.new.Goals as goal

pub invariant_of-result : goal.invariant_of-result
invariant_of-result c = record {
  in_order = c.by_predicate-adds.ensures.in_order;
  all = λ test.
      sym (list_any-IsPermutation test c.in_ok-all_adds.field-0.items c.by_predicate-adds.result.items c.by_predicate-adds.ensures.same)
      ∙ ap (list_any test) (c.in_ok-all_adds.ensures ∙ ap (adds_from 0) c.as_slice.ensures);
}
