-- One variable more, and all of them.
use Rattle.std.proofs.Common.{◌≡◌, ◌++◌, ◌+◌, [], ◌∷◌, map, length, sym, ap, ◌∙◌, arith}
use Rattle.std.specs.List.{range_with_len}
use Rattle.std.proofs.lemmas.List.{map-append}
use Rattle.lists.proofs.LoopSteps.{range_next}
use Rattle.sas_restriction.specs.Everything.{all_values}
use Rattle.sas_restriction.proofs.all.values_of_each.Goals as goal

pub loop-var-preserved : goal.loop-var-preserved
loop-var-preserved c =
    let e : 0 + c.loop-var.var ≡ c.loop-var.var = omega arith in
    c.in_ok-push.ensures.items
    ∙ ap (λ vs. vs ++ c.in_ok-list.list ∷ []) c.loop-var.invariant
    ∙ ap (λ v. map (all_values c.args.task.now) (range_with_len 0 c.loop-var.var) ++ v ∷ []) c.in_ok-list.ensures
    ∙ sym (ap (map (all_values c.args.task.now)) (range_next 0 c.loop-var.var ∙ ap (λ n. range_with_len 0 c.loop-var.var ++ n ∷ []) e)
    ∙ map-append (all_values c.args.task.now) (range_with_len 0 c.loop-var.var) (c.loop-var.var ∷ []))

pub returns : goal.returns
returns c =
    let past : c.loop-var.var ≡ length c.args.task.now.variables = omega arith in
    c.loop-var.invariant ∙ ap (λ n. map (all_values c.args.task.now) (range_with_len 0 n)) past
