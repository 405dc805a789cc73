use Rattle.std.proofs.Common.{◌≡◌, [], take}
use Rattle.fault_positions.specs.AtomTables.{HasValues}
use Rattle.fault_positions.specs.Initial.{revalued_after}
use Rattle.fault_positions.specs.Positions.{earliest}
use Rattle.fault_positions.proofs.initial.first_revalued.Given as goal

abbrev pub invariant-loop-entry : goal.invariant-loop-entry
invariant-loop-entry l = record {
  known : HasValues l.values (take l.entry-index l.entry-items);
  found : l.first ≡ earliest (revalued_after [] (take l.entry-index l.entry-items));
}
