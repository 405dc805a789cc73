use Rattle.std.proofs.Common.{◌≡◌, ◌++◌, take}
use Rattle.std.specs.List.{flat_map}
use Rattle.sas_task.specs.Output.{bytes_of, group_lines}
use Rattle.sas_writer.proofs.sections.push_groups.Given as goal

abbrev pub invariant-loop-i : goal.invariant-loop-i
invariant-loop-i l = l.out.items ≡ l.initial.out.items ++ bytes_of (flat_map group_lines (take l.i l.task.groups))
