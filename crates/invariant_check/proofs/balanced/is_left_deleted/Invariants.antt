use Rattle.std.proofs.Common.{◌≡◌, drop}
use Rattle.std.specs.List.{list_all}
use Rattle.invariant_check.specs.Accepted.{apart_from}
use Rattle.invariant_check.specs.Attempts.{leaves_deleted}
use Rattle.invariant_check.proofs.balanced.is_left_deleted.Given as goal

abbrev pub invariant-loop-row : goal.invariant-loop-row
invariant-loop-row l = list_all (λ a. leaves_deleted l.candidate l.add.schema.now l.add.row.now l.add.required.now l.add.instance.now l.predicate l.places (apart_from l.add.schema.now l.add.row.now a)) l.add.schema.now.effects ≡ list_all (λ a. leaves_deleted l.candidate l.add.schema.now l.add.row.now l.add.required.now l.add.instance.now l.predicate l.places (apart_from l.add.schema.now l.add.row.now a)) (drop l.row-index l.add.schema.now.effects)
