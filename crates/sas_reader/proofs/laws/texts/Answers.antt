use Rattle.sas_reader.proofs.AgainRest.{own_text}
use Rattle.sas_reader.proofs.WholeText.{task_read}
use Rattle.sas_reader.proofs.laws.texts.Goals as goal

pub returns-clause-valid : goal.returns-clause-valid
returns-clause-valid c = λ bytes read after e. (task_read bytes read after e).0

pub returns-clause-text : goal.returns-clause-text
returns-clause-text c = λ bytes read after e. (task_read bytes read after e).1

pub returns-clause-own : goal.returns-clause-own
returns-clause-own c = own_text
