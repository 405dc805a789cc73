use Rattle.reached_task.proofs.AlikeTasks.{one_reached_task, one_layers_of_alike}
use Rattle.reached_task.proofs.laws.one_but_for_order.Goals as goal

pub returns : goal.returns
returns c = record { reached = one_reached_task; layers = one_layers_of_alike }
