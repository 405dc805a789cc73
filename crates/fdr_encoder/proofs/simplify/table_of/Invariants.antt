use Rattle.std.proofs.Common.{take}
use Rattle.fdr_encoder.specs.GivenValues.{Know}
use Rattle.fdr_encoder.proofs.simplify.table_of.Given as goal

abbrev pub invariant-loop-effect : goal.invariant-loop-effect
invariant-loop-effect l = Know (take l.effect-index l.effects) l.table.keys
