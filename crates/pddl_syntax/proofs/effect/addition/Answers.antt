use Rattle.std.proofs.Common.{arith}
use Rattle.pddl_syntax.proofs.Readings.{first_made}
use Rattle.pddl_syntax.proofs.effect.addition.Goals as goal

pub returns : goal.returns
returns c = grind (arith, first_made)

pub returns-in_err-added : goal.returns-in_err-added
returns-in_err-added c = grind (arith, first_made)
