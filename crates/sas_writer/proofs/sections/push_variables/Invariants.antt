use Rattle.std.proofs.Common.{◌≡◌, ◌++◌, take}
use Rattle.std.specs.List.{flat_map, enumerate_from}
use Rattle.sas_task.specs.Output.{bytes_of, variable_lines}
use Rattle.sas_writer.proofs.sections.push_variables.Given as goal

abbrev pub invariant-loop-i : goal.invariant-loop-i
invariant-loop-i l = l.out.items ≡ l.initial.out.items ++ bytes_of (flat_map variable_lines (take l.i (enumerate_from 0 l.task.variables)))
