use Rattle.std.proofs.Common.{◌++◌}
use Rattle.sas_reader.proofs.Answered.{lawful_text}
use Rattle.sas_reader.proofs.FirstLinesOfTexts.{fault_within, same_fault, no_task, fault_at_end}
use Rattle.sas_reader.proofs.laws.first_faults.Goals as goal

pub returns-clause-lawful : goal.returns-clause-lawful
returns-clause-lawful c = lawful_text

pub returns-clause-within : goal.returns-clause-within
returns-clause-within c = fault_within

pub returns-clause-alike : goal.returns-clause-alike
returns-clause-alike c = same_fault

pub returns-clause-before : goal.returns-clause-before
returns-clause-before c = fault_at_end

pub returns-clause-hopeless : goal.returns-clause-hopeless
returns-clause-hopeless c = λ front more fault is low short has. no_task front more fault is low ((lawful_text (front ++ more) short).1 has)
