use Rattle.translator.proofs.WrittenTasks.{broken_line}
use Rattle.translator.proofs.task_file.written_task.Goals as goal

pub returns-in-Err-Fault-clause-err : goal.returns-in-Err-Fault-clause-err
returns-in-Err-Fault-clause-err c = broken_line c.args.text.now.name.now c.args.text.now.bytes.now c.in-Err-Fault.field-0 c.in-Err-Fault.fault c.in-Err-Fault.field-0-is c.in-Err-Fault.ensures.first
