use Rattle.std.proofs.Common.{◌≡◌, drop}
use Rattle.std.specs.List.{list_all}
use Rattle.invariant_check.specs.Accepted.{part_passes, is_light_beside}
use Rattle.invariant_check.proofs.light.is_light_beside_parts.Given as goal

abbrev pub invariant-loop-part : goal.invariant-loop-part
invariant-loop-part l = list_all (part_passes (is_light_beside l.candidate l.schema l.one.part.now l.one.row.now) l.row) l.candidate.parts ≡ list_all (part_passes (is_light_beside l.candidate l.schema l.one.part.now l.one.row.now) l.row) (drop l.part-index l.candidate.parts)
