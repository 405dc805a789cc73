use Rattle.std.proofs.Common.{◌≡◌, ◌≤◌, suc, ◌-◌, ◌∷◌, drop, ap, sym, ◌∙◌, subst, arith}
use Rattle.std.proofs.lemmas.List.Elements.{All-cons}
use Rattle.sas_task.specs.declared.parts.Operator.{Operator}
use Rattle.plan_backmap.specs.Plans.{cost_of}
use Rattle.plan_backmap.specs.Costs.{AreSmall}
use Rattle.plan_backmap.proofs.CostTables.{drop_got, costs_more}
use Rattle.plan_backmap.proofs.costs.cost_table.Goals as goal

pub loop-left-preserved : goal.loop-left-preserved
loop-left-preserved c =
    let operators = c.args.task.now.operators in
    let left = c.loop-left.left - 1 in
    let operator = c.operator-operator.result.now in
    let next : suc left ≡ c.loop-left.left = omega arith in
    let whole : drop left operators ≡ operator ∷ drop c.loop-left.left operators =
    drop_got operators left operator c.operator-operator.ensures.value ∙ ap (λ n. operator ∷ drop n operators) next in (
      omega arith,
      λ name. costs_more operator (drop c.loop-left.left operators) c.loop-left.table c.insert.new.self c.as_slice.result c.as_slice.ensures c.loop-left.invariant.1 c.in_ok-insert.ensures.updates name
          ∙ ap (λ l. cost_of l name.now) (sym whole),
      subst AreSmall (sym whole) (All-cons (λ (o : Operator). o.cost ≤ 2147483647) operator (drop c.loop-left.left operators) c.operator-operator.ensures.valid.cost c.loop-left.invariant.2),
    )
