use Rattle.translator.proofs.Clauses.{usage, refuses, device, by_counts, absent_input, input_fault, refused_input, complete, done, theorem, untouched_unless_written, left, in_part, others, fault_printed, unread_printed, absent_printed, summary_begun}
use Rattle.translator.proofs.command.translate.Goals as goal

pub returns-clause-usage : goal.returns-clause-usage
returns-clause-usage g c = usage c.one_ending_of_a_run.ensures _ _ _ _ _ _ c.called.ensures.called

pub returns-clause-refuses : goal.returns-clause-refuses
returns-clause-refuses g c = refuses c.one_ending_of_a_run.ensures _ _ _ _ _ _ c.called.ensures.called

pub returns-clause-device : goal.returns-clause-device
returns-clause-device g c = device c.one_ending_of_a_run.ensures _ _ _ _ _ _ c.called.ensures.called

pub returns-clause-reads : goal.returns-clause-reads
returns-clause-reads g c = λ other. (by_counts c.one_ending_of_a_run.ensures _ _ _ _ _ _ c.called.ensures.called other).0

pub returns-clause-writes : goal.returns-clause-writes
returns-clause-writes g c = λ other. (by_counts c.one_ending_of_a_run.ensures _ _ _ _ _ _ c.called.ensures.called other).1

pub returns-clause-faults : goal.returns-clause-faults
returns-clause-faults g c = λ other. (by_counts c.one_ending_of_a_run.ensures _ _ _ _ _ _ c.called.ensures.called other).2

pub returns-clause-absent : goal.returns-clause-absent
returns-clause-absent g c = absent_input c.one_ending_of_a_run.ensures _ _ _ _ _ _ c.called.ensures.called

pub returns-clause-input_fault : goal.returns-clause-input_fault
returns-clause-input_fault g c = input_fault c.one_ending_of_a_run.ensures _ _ _ _ _ _ c.called.ensures.called

pub returns-clause-refused_input : goal.returns-clause-refused_input
returns-clause-refused_input g c = refused_input c.one_ending_of_a_run.ensures _ _ _ _ _ _ c.called.ensures.called

pub returns-clause-complete : goal.returns-clause-complete
returns-clause-complete g c = complete c.one_ending_of_a_run.ensures _ _ _ _ _ _ c.called.ensures.called

pub returns-clause-done : goal.returns-clause-done
returns-clause-done g c = done c.one_ending_of_a_run.ensures _ _ _ _ _ _ c.called.ensures.called

pub returns-clause-theorem : goal.returns-clause-theorem
returns-clause-theorem g c = theorem c.one_ending_of_a_run.ensures _ _ _ _ _ c.outputs_translate.ensures _ c.called.ensures.called

pub returns-clause-untouched : goal.returns-clause-untouched
returns-clause-untouched g c = untouched_unless_written c.one_ending_of_a_run.ensures _ _ _ _ _ _ c.called.ensures.called

pub returns-clause-left : goal.returns-clause-left
returns-clause-left g c = left c.one_ending_of_a_run.ensures _ _ _ _ _ _ c.called.ensures.called

pub returns-clause-in_part : goal.returns-clause-in_part
returns-clause-in_part g c = in_part c.one_ending_of_a_run.ensures _ _ _ _ _ _ c.called.ensures.called

pub returns-clause-others : goal.returns-clause-others
returns-clause-others g c = others c.one_ending_of_a_run.ensures _ _ _ _ _ _ c.called.ensures.called

pub returns-clause-fault_printed : goal.returns-clause-fault_printed
returns-clause-fault_printed g c = fault_printed c.one_ending_of_a_run.ensures _ _ _ _ _ _ c.called.ensures.called

pub returns-clause-unread_printed : goal.returns-clause-unread_printed
returns-clause-unread_printed g c = unread_printed c.one_ending_of_a_run.ensures _ _ _ _ _ _ c.called.ensures.called

pub returns-clause-absent_printed : goal.returns-clause-absent_printed
returns-clause-absent_printed g c = absent_printed c.one_ending_of_a_run.ensures _ _ _ _ _ _ c.called.ensures.called

pub returns-clause-begun : goal.returns-clause-begun
returns-clause-begun g c = summary_begun c.one_ending_of_a_run.ensures _ _ _ _ _ _ c.called.ensures.called
