use Rattle.normal_task.proofs.LawfulTask.{lawful-task}
use Rattle.normal_task.proofs.laws.lawful.Goals as goal

pub returns : goal.returns
returns c = λ domain problem spelled spelled_problem none. lawful-task domain problem none spelled spelled_problem
