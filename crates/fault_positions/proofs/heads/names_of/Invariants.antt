use Rattle.std.proofs.Common.{take}
use Rattle.fault_positions.specs.Arguments.{AreThose}
use Rattle.fault_positions.specs.Names.{is_declared}
use Rattle.fault_positions.proofs.heads.names_of.Given as goal

abbrev pub invariant-loop-head : goal.invariant-loop-head
invariant-loop-head l = AreThose (is_declared (take l.head-index l.heads)) l.names
