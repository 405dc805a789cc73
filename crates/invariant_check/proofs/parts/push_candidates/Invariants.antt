use Rattle.std.proofs.Common.{◌≡◌, ◌++◌, map}
use Rattle.std.specs.List.{range_with_len}
use Rattle.std.specs.Prelude.{◌∷◌, Some, None}
use Rattle.invariant_check.specs.Extensions.{with_one}
use Rattle.invariant_check.proofs.parts.push_candidates.Given as goal

abbrev pub invariant-loop-position : goal.invariant-loop-position
invariant-loop-position l = l.candidates.items ≡ l.fn.candidates.items ++ map (with_one l.predicate l.arity) (None ∷ map Some (range_with_len 0 l.position))
