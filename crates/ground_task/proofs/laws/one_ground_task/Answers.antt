use Rattle.ground_task.proofs.OneGroundTask.{one_ground_task as one}
use Rattle.ground_task.proofs.laws.one_ground_task.Goals as goal

pub returns : goal.returns
returns c = one
