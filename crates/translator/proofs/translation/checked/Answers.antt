use Rattle.translator.proofs.Stages.{checked_pair}
use Rattle.translator.proofs.translation.checked.Goals as goal

pub returns-in-Ok-clause-checked : goal.returns-in-Ok-clause-checked
returns-in-Ok-clause-checked c = checked_pair c.args.read_domain c.args.read_problem c.in-Ok.pair c.in-Ok.ensures c.requires.domain c.requires.problem
