use Rattle.translator.proofs.Stages.{said_given, said_refused}
use Rattle.translator.proofs.translation.problem_of.Goals as goal

pub returns-in-Ok-clause-reading : goal.returns-in-Ok-clause-reading
returns-in-Ok-clause-reading c = said_given _ _ _ c.in-Ok.ensures.reading

pub returns-in-Err-Fault-clause-reading : goal.returns-in-Err-Fault-clause-reading
returns-in-Err-Fault-clause-reading c = said_refused _ _ c.in-Err-Fault.field-0 c.in-Err-Fault.fault c.in-Err-Fault.field-0-is c.in-Err-Fault.ensures.reading
