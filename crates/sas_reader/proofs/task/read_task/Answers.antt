use Rattle.sas_reader.proofs.Answered.{told_text, told_read, told_lawful, told_first, told_ok, told_fault, told_again}
use Rattle.sas_reader.proofs.task.read_task.Goals as goal

pub returns-clause-text : goal.returns-clause-text
returns-clause-text c = told_text c.args.bytes.now c.whole.result c.whole.ensures

pub returns-clause-read : goal.returns-clause-read
returns-clause-read c = told_read c.args.bytes.now c.whole.result c.whole.ensures

pub returns-clause-lawful : goal.returns-clause-lawful
returns-clause-lawful c = told_lawful c.args.bytes.now c.whole.result c.whole.ensures

pub returns-clause-first : goal.returns-clause-first
returns-clause-first c = told_first c.args.bytes.now c.whole.result c.whole.ensures

pub returns-clause-ok : goal.returns-clause-ok
returns-clause-ok c = told_ok c.args.bytes.now c.whole.result c.whole.ensures

pub returns-clause-fault : goal.returns-clause-fault
returns-clause-fault c = told_fault c.args.bytes.now c.whole.result c.whole.ensures

pub returns-clause-again : goal.returns-clause-again
returns-clause-again c = told_again c.args.bytes.now c.whole.result c.requires c.whole.ensures
