-- How the work on the files ends in the code, as an exit status and as what is printed.
use Rattle.std.specs.Prelude.{ℕ, List, Result, Ok, Err}
use Rattle.messages.specs.declared.outcome.Status.{Status}
use Rattle.messages.specs.declared.outcome.Status.TheVariants as statuses
use Rattle.messages.specs.declared.outcome.Report.{Report}
use Rattle.messages.specs.declared.outcome.End.{End}
use Rattle.messages.specs.declared.outcome.End.TheVariants as ends
use Rattle.messages.specs.Messages.{usage_line, memory_line, unreadable_line, unwritable_line, refusal_line, task_lines}

abbrev pub code_of : Status → ℕ
code_of statuses.Done = 0
code_of statuses.Usage = 2
code_of statuses.NoMemory = 20
code_of statuses.Device = 30
code_of statuses.InputFault = 31

-- what is printed of a task, or why none is written
abbrev pub Outcome : Type 0
Outcome = Result Report End

abbrev pub status_of : Outcome → Status
status_of (Ok report) = statuses.Done
status_of (Err ends.Usage) = statuses.Usage
status_of (Err ends.NoMemory) = statuses.NoMemory
status_of (Err (ends.CannotRead name)) = statuses.Device
status_of (Err (ends.CannotWrite name)) = statuses.Device
status_of (Err (ends.Refused name message)) = statuses.InputFault

abbrev pub line_of : Outcome → List ℕ
line_of (Ok report) = task_lines report.summary report.plan.items
line_of (Err ends.Usage) = usage_line
line_of (Err ends.NoMemory) = memory_line
line_of (Err (ends.CannotRead name)) = unreadable_line name.now
line_of (Err (ends.CannotWrite name)) = unwritable_line name.now
line_of (Err (ends.Refused name message)) = refusal_line name.now message
