use Rattle.std.proofs.Common.{arith}
use Rattle.pddl_syntax.proofs.Readings.{first_own_made}
use Rattle.pddl_syntax.proofs.effect.deletion.Goals as goal

pub returns : goal.returns
returns c = grind (arith, first_own_made)

pub returns-in_err-deleted : goal.returns-in_err-deleted
returns-in_err-deleted c = grind (arith, first_own_made)
