use Rattle.normal_task.proofs.Checked.{same_task}
use Rattle.normal_task.proofs.laws.same_task.Goals as goal

pub returns : goal.returns
returns c = same_task
