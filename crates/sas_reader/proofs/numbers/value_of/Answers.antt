use Rattle.std.proofs.Common.{◌<◌, length, sym, ◌∙◌, arith}
use Rattle.sas_reader.proofs.Digits.{too_large_tenfold, too_large_digit, all_read}
use Rattle.sas_reader.proofs.numbers.value_of.Goals as goal

pub returns-in_err-checked_mul : goal.returns-in_err-checked_mul
returns-in_err-checked_mul c =
    let within : c.loop-digit.digit-index < length c.args.digits.now = omega arith in
    c.from_residual.ensures ∙ sym (too_large_tenfold c.args.digits.now c.loop-digit.digit-index c.loop-digit.number within c.loop-digit.invariant.read c.in_err-checked_mul.ensures)

pub returns-in_err-number : goal.returns-in_err-number
returns-in_err-number c =
    let within : c.loop-digit.digit-index < length c.args.digits.now = omega arith in
    c.from_residual-in_err-number.ensures ∙ sym (too_large_digit c.args.digits.now c.loop-digit.digit-index c.loop-digit.number within c.loop-digit.invariant.read
    (λ small. c.in_err-number.ensures (omega (arith, small, c.in_ok-checked_mul.ensures, c.from-digit.ensures, c.saturating_sub.ensures))))

pub returns : goal.returns
returns c = all_read c.args.digits.now c.loop-digit.digit-index c.loop-digit.number (omega arith) c.loop-digit.invariant.read c.loop-digit.invariant.small
