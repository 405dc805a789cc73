use Rattle.std.proofs.Common.{◌≡◌, drop}
use Rattle.std.specs.List.{list_all}
use Rattle.invariant_check.specs.Accepted.{add_passes, is_light_beside}
use Rattle.invariant_check.proofs.light.is_light_add.Given as goal

abbrev pub invariant-loop-row : goal.invariant-loop-row
invariant-loop-row l = list_all (add_passes l.candidate (is_light_beside l.candidate l.schema l.one.part.now l.one.row.now)) l.schema.effects ≡ list_all (add_passes l.candidate (is_light_beside l.candidate l.schema l.one.part.now l.one.row.now)) (drop l.row-index l.schema.effects)
