use Rattle.std.proofs.Common.{◌≡◌, drop}
use Rattle.std.specs.List.{position_from}
use Rattle.invariant_check.specs.Repairs.{is_unbalanced_add}
use Rattle.invariant_check.proofs.check.first_row.Given as goal

abbrev pub invariant-loop-effect : goal.invariant-loop-effect
invariant-loop-effect l =
    position_from (is_unbalanced_add l.normal l.candidate l.schema) 0 l.schema.effects ≡ position_from (is_unbalanced_add l.normal l.candidate l.schema) l.effect (drop l.effect l.schema.effects)
