use Rattle.std.proofs.Common.{arith}
use Rattle.pddl_syntax.proofs.Nested.{condition_list, condition_other}
use Rattle.pddl_syntax.proofs.Readings.{first_made, first_both, first_own_made, first_own_both}
use Rattle.pddl_syntax.proofs.Rows.{begun, turn, fails, ended, fewer}
use Rattle.pddl_syntax.proofs.condition.+condition.Goals as goal

pub condition-returns : goal.condition-returns
condition-returns t c = grind (arith, condition_list)

pub condition-returns-then-is_empty : goal.condition-returns-then-is_empty
condition-returns-then-is_empty t c = grind (arith, condition_list)

pub condition-returns-then-is_list : goal.condition-returns-then-is_list
condition-returns-then-is_list t c = grind (arith, condition_list)

pub condition-returns-then-not-is_list : goal.condition-returns-then-not-is_list
condition-returns-then-not-is_list t c = grind (arith, condition_other)

pub joined-loop-cursor-init : goal.joined-loop-cursor-init
joined-loop-cursor-init t c = grind (arith, begun)

pub joined-loop-cursor-preserved : goal.joined-loop-cursor-preserved
joined-loop-cursor-preserved t c = grind (arith, turn, fewer)

pub joined-returns : goal.joined-returns
joined-returns t c = grind (arith, ended, first_made)

pub joined-returns-in_err-check_all : goal.joined-returns-in_err-check_all
joined-returns-in_err-check_all t c = grind (arith, first_made)

pub joined-returns-in_err-condition : goal.joined-returns-in_err-condition
joined-returns-in_err-condition t c = grind (arith, fails, first_made)

pub negation-returns : goal.negation-returns
negation-returns t c = grind (arith, first_own_made)

pub negation-returns-in_err-check_exact : goal.negation-returns-in_err-check_exact
negation-returns-in_err-check_exact t c = grind (arith, first_own_made)

pub negation-returns-in_err-negated : goal.negation-returns-in_err-negated
negation-returns-in_err-negated t c = grind (arith, first_own_made)

pub implication-returns-in_err-check_exact : goal.implication-returns-in_err-check_exact
implication-returns-in_err-check_exact t c = grind (arith, first_both)

pub implication-returns-in_err-premise : goal.implication-returns-in_err-premise
implication-returns-in_err-premise t c = grind (arith, first_both)

pub implication-returns-in_err-conclusion : goal.implication-returns-in_err-conclusion
implication-returns-in_err-conclusion t c = grind (arith, first_both)

pub implication-returns : goal.implication-returns
implication-returns t c = grind (arith, first_both)

pub quantified-returns-in_err-bound : goal.quantified-returns-in_err-bound
quantified-returns-in_err-bound t c = grind (arith, first_own_both)

pub quantified-returns-in_err-inner : goal.quantified-returns-in_err-inner
quantified-returns-in_err-inner t c = grind (arith, first_own_both)

pub quantified-returns : goal.quantified-returns
quantified-returns t c = grind (arith, first_own_both)
