use Rattle.std.proofs.Common.{arith}
use Rattle.pddl_syntax.proofs.Readings.{first_made}
use Rattle.pddl_syntax.proofs.condition.atomic.Goals as goal

pub returns : goal.returns
returns c = grind (arith, first_made)

pub returns-in_err-atom : goal.returns-in_err-atom
returns-in_err-atom c = grind (arith, first_made)
