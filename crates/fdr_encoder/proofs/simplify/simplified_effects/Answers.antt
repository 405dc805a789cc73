-- Where no condition can go, the effects are left as they are.
use Rattle.std.proofs.Common.{◌≡◌, true, not, eqb, List, map, sym, ap, ◌∙◌}
use Rattle.std.specs.List.{list_all}
use Rattle.sas_task.specs.declared.parts.Pair.{Pair}
use Rattle.sas_task.specs.declared.parts.Effect.{Effect}
use Rattle.fdr_encoder.specs.Operators.{less_idle}
use Rattle.fdr_encoder.proofs.ConditionsStay.{apart_stay}
use Rattle.fdr_encoder.proofs.simplify.simplified_effects.Goals as goal

pub returns-then-are_apart : goal.returns-then-are_apart
returns-then-are_apart c =
    let cover = c.args.index.now in
    let left = c.in_ok-left.left.items in
    let apart : list_all (λ (e : Effect). list_all (λ (p : Pair). not (eqb p.var e.var)) e.conditions) left ≡ true =
    ap (list_all (λ (e : Effect). list_all (λ (p : Pair). not (eqb p.var e.var)) e.conditions)) (sym c.as_slice.ensures.value) ∙ sym c.are_apart.ensures ∙ c.if-are_apart.true in
    sym (apart_stay cover left left apart) ∙ ap (λ (l : List Effect). map (less_idle cover l) l) c.in_ok-left.ensures
