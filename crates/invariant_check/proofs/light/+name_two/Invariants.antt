use Rattle.std.proofs.Common.{length}
use Rattle.invariant_check.proofs.light.+name_two.Given as goal

abbrev pub decreases-name_two : goal.decreases-name_two
decreases-name_two l = length l.positions.now
