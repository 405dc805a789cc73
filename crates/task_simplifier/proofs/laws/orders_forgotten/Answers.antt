use Rattle.sas_restriction.proofs.Valid.{valid_rules}
use Rattle.task_simplifier.proofs.AlikeTasks.{one_of_alike}
use Rattle.task_simplifier.proofs.laws.orders_forgotten.Goals as goal

pub returns : goal.returns
returns c = record { one = one_of_alike; valid = valid_rules }
