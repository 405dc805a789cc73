use Rattle.normal_task.proofs.OnceEach.{kept-once}
use Rattle.normal_task.proofs.laws.kept_once.Goals as goal

pub returns : goal.returns
returns c c' = λ domain problem same follows before items item. kept-once domain problem same follows before items item
