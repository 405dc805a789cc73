use Rattle.std.proofs.Common.{◌≡◌, drop}
use Rattle.invariant_check.specs.Touched.{first_among}
use Rattle.invariant_check.proofs.check.first_unbalanced.Given as goal

abbrev pub invariant-loop-number : goal.invariant-loop-number
invariant-loop-number l = first_among l.normal l.candidate l.numbers ≡ first_among l.normal l.candidate (drop l.number-index l.numbers)
