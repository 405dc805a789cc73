use Rattle.std.proofs.Common.{◌≤◌, sym, ap, ◌∙◌, subst}
use Rattle.std.specs.Prelude.{IfSome}
use Rattle.plan_backmap.specs.Plans.{cost_of}
use Rattle.plan_backmap.specs.Costs.{AreSmall}
use Rattle.plan_backmap.proofs.CostTables.{small_cost}
use Rattle.plan_backmap.proofs.costs.Costs.cost.Goals as goal

pub returns-clause-cost : goal.returns-clause-cost
returns-clause-cost c =
    c.copied.ensures ∙ c.get.ensures.value ∙ c.self.invariant.0 c.args.name ∙ ap (λ task. cost_of task.operators c.args.name.now) c.self.view_is

pub returns-clause-small : goal.returns-clause-small
returns-clause-small c =
    subst (λ o. IfSome o (λ cost. cost ≤ 2147483647)) (sym (returns-clause-cost c))
    (small_cost c.args.self.now.operators c.args.name.now (subst (λ task. AreSmall task.operators) c.self.view_is c.self.invariant.1))
