use Rattle.std.proofs.Common.{◌≡◌, drop}
use Rattle.std.specs.List.{list_all}
use Rattle.invariant_check.specs.Touched.{is_light_at}
use Rattle.invariant_check.proofs.light.is_light.Given as goal

abbrev pub invariant-loop-number : goal.invariant-loop-number
invariant-loop-number l = list_all (is_light_at l.normal l.candidate) l.numbers ≡ list_all (is_light_at l.normal l.candidate) (drop l.number-index l.numbers)
