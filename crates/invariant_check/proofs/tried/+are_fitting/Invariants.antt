use Rattle.std.proofs.Common.{length}
use Rattle.invariant_check.proofs.tried.+are_fitting.Given as goal

abbrev pub decreases-are_fitting : goal.decreases-are_fitting
decreases-are_fitting l = length l.given.now
