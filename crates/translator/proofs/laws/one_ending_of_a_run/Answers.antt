use Rattle.translator.proofs.OneRun.{one_ending}
use Rattle.translator.proofs.laws.one_ending_of_a_run.Goals as goal

pub returns : goal.returns
returns c = one_ending c.one_task_of_a_run.ensures.pair c.passes_keep.ensures.one
