use Rattle.std.proofs.Common.{◌≡◌, map, filter, take}
use Rattle.std.specs.Prelude.{nat_eq}
use Rattle.std.specs.List.{flat_map}
use Rattle.contradictions.specs.declared.types.Part.{Part}
use Rattle.invariant_check.specs.declared.types.AddOf.{AddOf}
use Rattle.invariant_check.proofs.adds.schemas_of_adds.Given as goal

abbrev pub invariant-loop-part : goal.invariant-loop-part
invariant-loop-part l =
    l.numbers.items ≡ flat_map (λ (part : Part). map (λ (add : AddOf). add.schema) (filter (λ (add : AddOf). nat_eq add.predicate part.predicate) l.table.adds.items)) (take l.part-index l.candidate.parts)
