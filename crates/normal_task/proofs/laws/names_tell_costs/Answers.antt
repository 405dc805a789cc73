use Rattle.normal_task.proofs.StepCosts.{names_tell}
use Rattle.normal_task.proofs.laws.names_tell_costs.Goals as goal

pub returns : goal.returns
returns c domain problem spelled spelled_problem none = names_tell domain problem none spelled spelled_problem (c.declared_once.ensures.actions domain problem none)
