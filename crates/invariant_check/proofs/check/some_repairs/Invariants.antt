use Rattle.std.proofs.Common.{◌≡◌, drop}
use Rattle.std.specs.List.{list_any}
use Rattle.invariant_check.specs.Extensions.{with_part}
use Rattle.contradictions.specs.declared.types.Part.{Part}
use Rattle.invariant_check.specs.Repairs.{balances_add}
use Rattle.invariant_check.proofs.check.some_repairs.Given as goal

abbrev pub invariant-loop-part : goal.invariant-loop-part
invariant-loop-part l = list_any (λ (part : Part). balances_add l.normal l.place (with_part l.normal l.candidate part)) l.parts ≡ list_any (λ (part : Part). balances_add l.normal l.place (with_part l.normal l.candidate part)) (drop l.part-index l.parts)
