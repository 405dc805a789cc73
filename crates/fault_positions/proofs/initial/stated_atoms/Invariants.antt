use Rattle.std.proofs.Common.{take}
use Rattle.fault_positions.specs.AtomTables.{HasStated}
use Rattle.fault_positions.proofs.initial.stated_atoms.Given as goal

abbrev pub invariant-loop-entry : goal.invariant-loop-entry
invariant-loop-entry l = HasStated l.stated (take l.entry-index l.init)
