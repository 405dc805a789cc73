use Rattle.plan_backmap.proofs.SolutionCosts.{cost_the_total}
use Rattle.plan_backmap.proofs.laws.solutions_cost_the_total.Goals as goal

pub returns : goal.returns
returns c = cost_the_total
