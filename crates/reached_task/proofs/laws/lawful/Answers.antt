use Rattle.reached_task.proofs.LawfulReached.{lawful_reached}
use Rattle.reached_task.proofs.laws.lawful.Goals as goal

pub returns : goal.returns
returns c task reached lawful is = lawful_reached task lawful reached is
