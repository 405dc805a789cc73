use Rattle.std.proofs.Common.{◌≡◌, ℕ, List, ap, subst, ◌∙◌}
use Rattle.std.specs.Prelude.{IfOk}
use Rattle.type_checker.specs.Checked.{FilePair}
use Rattle.numbering.proofs.TypeRanges.{range_found}
use Rattle.numbering.proofs.numbering.ObjectTables.range_of_types.Goals as goal

pub returns : goal.returns
returns c =
    subst (λ (objects : List ℕ). IfOk c.from_vec.result (λ range. range ≡ objects))
    (range_found c.args.self.now.domain c.args.self.now.problem c.self.inside.hierarchy.entries.now c.args.listed.now c.in_ok-below.below c.is_any-is_any.result
    (c.self.invariant.1 ∙ ap (λ (p : FilePair). p.domain.types) c.self.view_is) c.in_ok-below.ensures c.is_any-is_any.ensures
    c.as_slice.result.now c.as_slice-2.result.now (c.as_slice.ensures ∙ ap (λ (p : FilePair). p.domain.constants) c.self.view_is) (c.as_slice-2.ensures ∙ ap (λ (p : FilePair). p.problem.objects) c.self.view_is)
    c.new-numbers.result.items c.push_numbers.new.numbers.items c.push_numbers-2.new.numbers.items c.new-numbers.ensures.items c.in_ok-push_numbers.ensures c.in_ok-push_numbers-2.ensures)
    c.from_vec.ensures
