use Rattle.pddl_syntax.proofs.Digits.{ReadTo}
use Rattle.pddl_syntax.proofs.number.number_of.Given as goal

abbrev pub invariant-loop-digit : goal.invariant-loop-digit
invariant-loop-digit l = ReadTo l.digits l.digit-index l.number
