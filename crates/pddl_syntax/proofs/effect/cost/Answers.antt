use Rattle.std.proofs.Common.{arith}
use Rattle.pddl_syntax.proofs.Readings.{first_made}
use Rattle.pddl_syntax.proofs.effect.cost.Goals as goal

pub returns : goal.returns
returns c = grind (arith, first_made)

pub returns-in_err-number : goal.returns-in_err-number
returns-in_err-number c = grind (arith, first_made)

pub returns-in_err-term : goal.returns-in_err-term
returns-in_err-term c = grind (arith, first_made)

pub returns-then-not-is_list : goal.returns-then-not-is_list
returns-then-not-is_list c = grind (arith, first_made)
