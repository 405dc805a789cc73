use Rattle.std.proofs.Common.{◌≡◌, take}
use Rattle.std.specs.List.{flat_map}
use Rattle.invariant_check.specs.Extensions.{parts_of}
use Rattle.invariant_check.proofs.extensions.parts_of.Given as goal

abbrev pub invariant-loop-predicate : goal.invariant-loop-predicate
invariant-loop-predicate l = l.parts.items ≡ flat_map (parts_of l.normal l.candidate.parameters) (take l.predicate-index l.predicates)
