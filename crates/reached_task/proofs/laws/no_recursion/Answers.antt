use Rattle.reached_task.proofs.ReachedMeaning.{no_recursion}
use Rattle.reached_task.proofs.laws.no_recursion.Goals as goal

pub returns : goal.returns
returns c task reached ranked is = no_recursion task reached ranked is
