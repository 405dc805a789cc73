use Rattle.std.proofs.Common.{◌==◌, ◌∙◌, ap, sym}
use Rattle.std.specs.List.{list_any}
use Rattle.std.proofs.lemmas.List.Sorted.{IsNonDecreasingBy-from_sort, list_any-IsPermutation}
use Rattle.sas_task.specs.declared.parts.Effect.{Effect}
use Rattle.lists.proofs.Items.{any_map}
use Rattle.sas_writer.proofs.operators.set_changed.Goals as goal

pub returns-clause-sorted : goal.returns-clause-sorted
returns-clause-sorted c = IsNonDecreasingBy-from_sort (λ x. x) c.sort_unstable.new.self.items c.sort_unstable.ensures.sorted

pub returns-clause-changed : goal.returns-clause-changed
returns-clause-changed c var =
    sym (list_any-IsPermutation (λ v. v == var) c.set_variables.new.variables.items c.sort_unstable.new.self.items c.sort_unstable.ensures.permutation)
    ∙ ap (list_any (λ v. v == var)) c.in_ok-set_variables.ensures
    ∙ any_map (λ v. v == var) (λ (e : Effect). e.var) c.as_slice.result.now
    ∙ ap (list_any (λ (e : Effect). e.var == var)) c.as_slice.ensures
