use Rattle.std.proofs.Common.{arith}
use Rattle.pddl_syntax.proofs.NestedEffects.{effect_list, effect_other}
use Rattle.pddl_syntax.proofs.Readings.{first_made, first_own_both}
use Rattle.pddl_syntax.proofs.Rows.{begun, turn, fails, ended, fewer}
use Rattle.pddl_syntax.proofs.effect.+effect.Goals as goal

pub effect-returns : goal.effect-returns
effect-returns t c = grind (arith, effect_list)

pub effect-returns-then-is_empty : goal.effect-returns-then-is_empty
effect-returns-then-is_empty t c = grind (arith, effect_list)

pub effect-returns-then-is_list : goal.effect-returns-then-is_list
effect-returns-then-is_list t c = grind (arith, effect_list)

pub effect-returns-then-not-is_list : goal.effect-returns-then-not-is_list
effect-returns-then-not-is_list t c = grind (arith, effect_other)

pub conjunction-loop-cursor-init : goal.conjunction-loop-cursor-init
conjunction-loop-cursor-init t c = grind (arith, begun)

pub conjunction-loop-cursor-preserved : goal.conjunction-loop-cursor-preserved
conjunction-loop-cursor-preserved t c = grind (arith, turn, fewer)

pub conjunction-returns : goal.conjunction-returns
conjunction-returns t c = grind (arith, ended, first_made)

pub conjunction-returns-in_err-check_all : goal.conjunction-returns-in_err-check_all
conjunction-returns-in_err-check_all t c = grind (arith, first_made)

pub conjunction-returns-in_err-effect : goal.conjunction-returns-in_err-effect
conjunction-returns-in_err-effect t c = grind (arith, fails, first_made)

pub guarded-returns : goal.guarded-returns
guarded-returns t c = grind (arith, first_own_both)

pub guarded-returns-in_err-condition : goal.guarded-returns-in_err-condition
guarded-returns-in_err-condition t c = grind (arith, first_own_both)

pub for_all-returns-in_err-bound : goal.for_all-returns-in_err-bound
for_all-returns-in_err-bound t c = grind (arith, first_own_both)

pub for_all-returns-in_err-inner : goal.for_all-returns-in_err-inner
for_all-returns-in_err-inner t c = grind (arith, first_own_both)

pub for_all-returns : goal.for_all-returns
for_all-returns t c = grind (arith, first_own_both)
