use Rattle.std.proofs.Common.{◌≡◌, map, take}
use Rattle.std.specs.List.{flat_map}
use Rattle.invariant_check.specs.Extensions.{arity_of, countings, with_one}
use Rattle.invariant_check.proofs.extensions.one_predicate.Given as goal

abbrev pub invariant-loop-predicate : goal.invariant-loop-predicate
invariant-loop-predicate l = l.candidates.items ≡ flat_map (λ predicate. map (with_one predicate (arity_of l.normal predicate)) (countings (arity_of l.normal predicate))) (take l.predicate-index l.predicate-items)
