use Rattle.std.proofs.Common.{◌≡◌, flat_map, take}
use Rattle.invariant_check.specs.Attempts.{stated_at}
use Rattle.invariant_check.proofs.tried.all_stated.Given as goal

abbrev pub invariant-loop-literal : goal.invariant-loop-literal
invariant-loop-literal l = l.terms.items ≡ flat_map (stated_at l.predicate l.index) (take l.literal-index l.required)
