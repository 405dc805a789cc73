use Rattle.std.proofs.Common.{take}
use Rattle.fault_positions.proofs.HeadTables.{AreKeys}
use Rattle.fault_positions.proofs.heads.keys_of.Given as goal

abbrev pub invariant-loop-head : goal.invariant-loop-head
invariant-loop-head l = AreKeys (take l.head-index l.heads) l.keys.keys
