use Rattle.std.proofs.Common.{◌≡◌, drop}
use Rattle.std.specs.List.{list_any}
use Rattle.invariant_check.specs.Attempts.{balances_somehow}
use Rattle.invariant_check.proofs.balanced.some_balances.Given as goal

abbrev pub invariant-loop-row : goal.invariant-loop-row
invariant-loop-row l = list_any (balances_somehow l.normal l.candidate l.add.schema.now l.add.row.now l.add.required.now l.add.instance.now) l.add.schema.now.effects ≡ list_any (balances_somehow l.normal l.candidate l.add.schema.now l.add.row.now l.add.required.now l.add.instance.now) (drop l.row-index l.add.schema.now.effects)
