use Rattle.std.proofs.Common.{◌≡◌, filter, map, take}
use Rattle.invariant_check.specs.Extensions.{with_part}
use Rattle.contradictions.specs.declared.types.Part.{Part}
use Rattle.invariant_check.specs.Repairs.{balances_add}
use Rattle.invariant_check.proofs.check.repairs_at.Given as goal

abbrev pub invariant-loop-part : goal.invariant-loop-part
invariant-loop-part l =
    l.repairs.items ≡ map (with_part l.normal l.candidate) (filter (λ (part : Part). balances_add l.normal l.place (with_part l.normal l.near part)) (take l.part-index l.part-items))
