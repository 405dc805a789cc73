use Rattle.translator.proofs.Owed.{outputs}
use Rattle.translator.proofs.laws.outputs_translate.Goals as goal

pub returns : goal.returns
returns c = outputs c.domains_are_spelled.ensures c.problems_are_spelled.ensures c.texts.ensures.valid c.tasks_translate.ensures c.passed_tasks_stand.ensures
