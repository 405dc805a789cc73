use Rattle.ground_task.proofs.GroundMeaning.{same_meaning}
use Rattle.ground_task.proofs.laws.same_meaning.Goals as goal

pub returns : goal.returns
returns c task result statics is = same_meaning task result statics is
