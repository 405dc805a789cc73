use Rattle.pddl_syntax.proofs.WorkedPair.{has_plan, no_empty_plan, only_cost}
use Rattle.pddl_syntax.proofs.laws.worked_pair.Goals as goal

pub returns : goal.returns
returns c = record { has_plan = has_plan; no_steps = no_empty_plan; one_cost = only_cost }
