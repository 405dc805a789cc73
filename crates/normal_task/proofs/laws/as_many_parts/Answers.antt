use Rattle.normal_task.proofs.Counts.{condition-counts}
use Rattle.normal_task.proofs.laws.as_many_parts.Goals as goal

pub returns : goal.returns
returns c = λ domain problem condition positive scope around next. (condition-counts domain problem condition positive scope around next).parts
