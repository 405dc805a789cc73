use Rattle.ground_task.proofs.GroundMeaning.{no_recursion}
use Rattle.ground_task.proofs.laws.no_recursion.Goals as goal

pub returns : goal.returns
returns c task result statics is ranked = no_recursion task result statics is ranked
