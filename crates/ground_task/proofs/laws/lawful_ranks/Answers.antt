use Rattle.ground_task.proofs.LawfulRanks as ranks
use Rattle.ground_task.proofs.laws.lawful_ranks.Goals as goal

pub returns : goal.returns
returns c task lawful = ranks.lawful_ranks task lawful
