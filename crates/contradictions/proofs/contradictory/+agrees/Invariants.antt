use Rattle.std.proofs.Common.{length}
use Rattle.contradictions.proofs.contradictory.+agrees.Given as goal

abbrev pub decreases-agrees : goal.decreases-agrees
decreases-agrees l = length l.positions.now
