use Rattle.std.proofs.Common.{◌≡◌, drop}
use Rattle.std.specs.List.{list_any}
use Rattle.std.specs.Prelude.{◌&&◌, nat_eq}
use Rattle.contradictions.specs.declared.types.Part.{Part}
use Rattle.invariant_check.specs.Accepted.{has_balance}
use Rattle.invariant_check.proofs.check.balances_row.Given as goal

abbrev pub invariant-loop-part : goal.invariant-loop-part
invariant-loop-part l = list_any (λ (part : Part). nat_eq part.predicate l.row.predicate && has_balance l.normal l.candidate l.schema part l.row) l.candidate.parts ≡ list_any (λ (part : Part). nat_eq part.predicate l.row.predicate && has_balance l.normal l.candidate l.schema part l.row) (drop l.part-index l.candidate.parts)
