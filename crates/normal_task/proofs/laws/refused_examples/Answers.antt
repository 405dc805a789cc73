use Rattle.normal_task.proofs.RefusedTasks.{small_lawful, refused}
use Rattle.normal_task.proofs.laws.refused_examples.Goals as goal

pub returns : goal.returns
returns c = record { lawful = small_lawful; refused = refused }
