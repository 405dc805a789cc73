use Rattle.ground_task.proofs.LawfulGround.{lawful_ground}
use Rattle.ground_task.proofs.laws.lawful.Goals as goal

pub returns : goal.returns
returns c task result lawful is = lawful_ground task lawful result is
