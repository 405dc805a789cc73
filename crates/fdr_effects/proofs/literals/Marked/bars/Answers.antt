-- The marks on the place's variable speak for all.
use Rattle.std.proofs.Common.{eqb, sym, ap, ◌∙◌, subst}
use Rattle.std.specs.List.{list_any}
use Rattle.std.specs.List.Sorted.{IsNonDecreasingBy}
use Rattle.sas_task.specs.declared.parts.Pair.{Pair}
use Rattle.fdr_effects.specs.Marks.{on}
use Rattle.fdr_effects.specs.Standing.{Over, is_at, bars}
use Rattle.fdr_effects.proofs.ByVariable.{any_on}
use Rattle.fdr_effects.proofs.literals.Marked.bars.Goals as goal

pub on-requires : goal.on-requires
on-requires c = subst (IsNonDecreasingBy (λ (p : Pair). p.var)) (sym c.as_slice.ensures.value) c.self.invariant.barred_in_order

pub returns : goal.returns
returns c =
    let place = c.args.place.now in
    c.some_at.ensures
    ∙ ap (list_any (λ (p : Pair). eqb p.val place.val)) (c.on.ensures ∙ ap (on place.var) c.as_slice.ensures.value)
    ∙ any_on place.var (λ p. eqb p.val place.val) c.self.inside.barred.items
    ∙ c.self.invariant.bars (is_at place)
    ∙ ap (λ (over : Over). bars over place) c.self.view_is
