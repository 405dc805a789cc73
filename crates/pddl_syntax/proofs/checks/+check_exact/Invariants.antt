use Rattle.std.proofs.Common.{length}
use Rattle.pddl_syntax.proofs.checks.+check_exact.Given as goal

abbrev pub decreases-check_exact : goal.decreases-check_exact
decreases-check_exact l = length l.expected.now
