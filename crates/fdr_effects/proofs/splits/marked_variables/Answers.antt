-- The variables of the marks, sorted and without repeats.
use Rattle.std.proofs.Common.{◌==◌, ◌++◌, ℕ, eqb, sym, ap, ◌∙◌, subst}
use Rattle.std.specs.List.{list_any}
use Rattle.std.specs.List.Sorted.{IsStrictlyIncreasing}
use Rattle.std.proofs.lemmas.List.Filters.{dedup_is}
use Rattle.std.proofs.lemmas.List.Folds.{list_any-append}
use Rattle.std.proofs.lemmas.List.Sorted.{list_any-IsPermutation}
use Rattle.std.proofs.lemmas.Map.Keys.{IsStrictlyIncreasing-dedup}
use Rattle.lists.proofs.Items.{any_map}
use Rattle.sas_task.specs.declared.parts.Pair.{Pair}
use Rattle.fdr_effects.proofs.Marked.{any_dedup}
use Rattle.fdr_effects.proofs.splits.marked_variables.Goals as goal

pub returns-clause-in_order : goal.returns-clause-in_order
returns-clause-in_order c =
    let sorted = c.sort_unstable.new.self.items in
    subst IsStrictlyIncreasing (sym (dedup_is eqb sorted c.dedup.new.self.items c.dedup.ensures.filtered)) (IsStrictlyIncreasing-dedup sorted c.sort_unstable.ensures.sorted)

pub returns-clause-marked : goal.returns-clause-marked
returns-clause-marked c var =
    let sorted = c.sort_unstable.new.self.items in
    let test = λ (v : ℕ). v == var in
    ap (list_any test) (dedup_is eqb sorted c.dedup.new.self.items c.dedup.ensures.filtered)
    ∙ any_dedup var sorted
    ∙ sym (list_any-IsPermutation test c.in_ok-vars.vars.items sorted c.sort_unstable.ensures.permutation)
    ∙ ap (list_any test) c.in_ok-vars.ensures
    ∙ any_map test (λ (p : Pair). p.var) (c.args.wanted.now ++ c.args.barred.now)
    ∙ list_any-append (λ (p : Pair). p.var == var) c.args.wanted.now c.args.barred.now
