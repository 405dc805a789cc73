use Rattle.ground_task.proofs.Statics as statics
use Rattle.ground_task.proofs.laws.statics_kept.Goals as goal

pub returns : goal.returns
returns c domain problem none = statics.statics_kept domain problem none
