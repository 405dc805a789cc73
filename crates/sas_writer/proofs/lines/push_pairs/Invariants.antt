use Rattle.std.proofs.Common.{◌≡◌, ◌++◌, take}
use Rattle.std.specs.List.{flat_map}
use Rattle.sas_task.specs.Output.{bytes_of, pair_lines}
use Rattle.sas_writer.proofs.lines.push_pairs.Given as goal

abbrev pub invariant-loop-pair : goal.invariant-loop-pair
invariant-loop-pair l = l.out.items ≡ l.initial.out.items ++ bytes_of (flat_map pair_lines (take l.pair-index l.pairs))
