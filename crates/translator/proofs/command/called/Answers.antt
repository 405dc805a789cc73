use Rattle.translator.specs.Call.{called}
use Rattle.translator.proofs.command.called.Goals as goal

pub returns-clause-called : goal.returns-clause-called
returns-clause-called g c = called _ _ c.work-outcome.ensures.ends c.told.ensures
