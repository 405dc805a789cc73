use Rattle.ground_task.proofs.LawfulNormal as lawful
use Rattle.ground_task.proofs.laws.keeps_statics.Goals as goal

pub returns : goal.returns
returns c task is = lawful.keeps_statics task is
