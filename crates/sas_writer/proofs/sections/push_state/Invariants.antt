use Rattle.std.proofs.Common.{◌≡◌, ◌++◌, take, map}
use Rattle.sas_task.specs.Output.{bytes_of, numeral}
use Rattle.sas_writer.proofs.sections.push_state.Given as goal

abbrev pub invariant-loop-i : goal.invariant-loop-i
invariant-loop-i l = l.out.items ≡ l.initial.out.items ++ bytes_of (map numeral (take l.i l.task.state))
