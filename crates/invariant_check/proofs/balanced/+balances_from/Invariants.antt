use Rattle.std.proofs.Common.{◌≡◌, ◌+◌, ◌-◌, drop, length}
use Rattle.std.specs.List.{list_any}
use Rattle.invariant_check.specs.Attempts.{balances_given}
use Rattle.invariant_check.proofs.Choices.{tries}
use Rattle.invariant_check.proofs.balanced.+balances_from.Given as goal

abbrev pub decreases-balances_from : goal.decreases-balances_from
decreases-balances_from l = length l.tried.now - l.variable

abbrev pub invariant-loop-term : goal.invariant-loop-term
invariant-loop-term l =
    list_any (tries (balances_given l.normal l.candidate l.add.schema.now l.add.row.now l.add.required.now l.add.instance.now l.delete) l.given (drop (l.variable + 1) l.tried)) l.term-items
    ≡ list_any (tries (balances_given l.normal l.candidate l.add.schema.now l.add.row.now l.add.required.now l.add.instance.now l.delete) l.given (drop (l.variable + 1) l.tried)) (drop l.term-index l.term-items)
