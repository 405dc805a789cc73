use Rattle.std.proofs.Common.{arith}
use Rattle.pddl_syntax.proofs.OwnFaults.{all_none, all_first}
use Rattle.pddl_syntax.proofs.checks.check_all.Goals as goal

pub loop-cursor-preserved : goal.loop-cursor-preserved
loop-cursor-preserved c = grind (arith, all_first)

pub returns-in_err-check_member : goal.returns-in_err-check_member
returns-in_err-check_member c = grind (arith, all_first)

pub returns : goal.returns
returns c = grind (arith, all_none)
