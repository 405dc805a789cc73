use Rattle.ground_task.proofs.LawfulNormal.{instances_ranked}
use Rattle.ground_task.proofs.laws.falling_ranks.Goals as goal

pub returns : goal.returns
returns c task is = instances_ranked task is
