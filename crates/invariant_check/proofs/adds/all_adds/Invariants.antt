use Rattle.std.proofs.Common.{◌≡◌, ◌++◌, drop}
use Rattle.invariant_check.specs.Touched.{adds_from}
use Rattle.invariant_check.proofs.adds.all_adds.Given as goal

abbrev pub invariant-loop-number : goal.invariant-loop-number
invariant-loop-number l = adds_from 0 l.schemas ≡ l.adds.items ++ adds_from l.number (drop l.number l.schemas)
