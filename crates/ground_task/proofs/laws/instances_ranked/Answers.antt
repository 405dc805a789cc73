use Rattle.ground_task.proofs.InstanceRanks as ranks
use Rattle.ground_task.proofs.laws.instances_ranked.Goals as goal

pub returns : goal.returns
returns c domain problem none = ranks.instances_ranked domain problem none
