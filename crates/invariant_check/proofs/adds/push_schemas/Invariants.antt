use Rattle.std.proofs.Common.{◌≡◌, ◌++◌, map, take}
use Rattle.invariant_check.specs.declared.types.AddOf.{AddOf}
use Rattle.invariant_check.proofs.adds.push_schemas.Given as goal

abbrev pub invariant-loop-add : goal.invariant-loop-add
invariant-loop-add l = l.numbers.items ≡ l.fn.numbers.items ++ map (λ (add : AddOf). add.schema) (take l.add-index l.adds)
