use Rattle.std.proofs.Common.{◌+◌, ◌-◌, ◌*◌, ◌<◌, length, slice_index, sym, arith}
use Rattle.pddl_syntax.specs.Words.{largest}
use Rattle.lists.proofs.Digits.{read_digit}
use Rattle.pddl_syntax.proofs.Digits.{too_large}
use Rattle.pddl_syntax.proofs.number.number_of.Goals as goal

pub returns-then-number-gt-LARGEST : goal.returns-then-number-gt-LARGEST
returns-then-number-gt-LARGEST c =
    let within : c.loop-digit.digit-index < length c.args.digits.now = omega arith in
    let next = read_digit c.args.digits.now c.loop-digit.digit-index c.loop-digit.number within c.loop-digit.invariant.rest in
    let large : largest < c.loop-digit.number * 10 + (slice_index c.args.digits.now c.loop-digit.digit-index - 48) = omega arith in
    sym (too_large c.args.digits.now (c.loop-digit.digit-index + 1) _ next large)
