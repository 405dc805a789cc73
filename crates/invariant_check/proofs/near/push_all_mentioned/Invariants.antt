use Rattle.std.proofs.Common.{◌≡◌, ◌++◌, filter, take}
use Rattle.contradictions.specs.declared.types.Part.{Part}
use Rattle.invariant_check.specs.Beside.{mentions}
use Rattle.invariant_check.proofs.near.push_all_mentioned.Given as goal

abbrev pub invariant-loop-part : goal.invariant-loop-part
invariant-loop-part l = l.near.items ≡ l.fn.near.items ++ filter (λ (part : Part). mentions l.schema part.predicate) (take l.part-index l.parts)
