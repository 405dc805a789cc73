use Rattle.std.proofs.Common.{arith}
use Rattle.pddl_syntax.proofs.Readings.{first_own_both}
use Rattle.pddl_syntax.proofs.effect.increase.Goals as goal

pub returns-in_err-by : goal.returns-in_err-by
returns-in_err-by c = grind (arith, first_own_both)

pub returns-in_err-increased : goal.returns-in_err-increased
returns-in_err-increased c = grind (arith, first_own_both)

pub returns : goal.returns
returns c = grind (arith, first_own_both)
