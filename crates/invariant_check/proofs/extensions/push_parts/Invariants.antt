use Rattle.std.proofs.Common.{◌≡◌, ◌++◌, map}
use Rattle.std.specs.List.{flat_map, range_with_len}
use Rattle.std.specs.Prelude.{◌∷◌, Some, None}
use Rattle.invariant_check.specs.Extensions.{parts_counting}
use Rattle.invariant_check.proofs.extensions.push_parts.Given as goal

abbrev pub invariant-loop-position : goal.invariant-loop-position
invariant-loop-position l = l.parts.items ≡ l.fn.parts.items ++ flat_map (parts_counting l.predicate l.arity l.parameters) (None ∷ map Some (range_with_len 0 l.position))
