use Rattle.std.proofs.Common.{map, take}
use Rattle.normal_rows.specs.MadeThings.{IsMadeOf}
use Rattle.normal_task.specs.Normalised as spec
use Rattle.normal_task.specs.Parts.{in_turn}
use Rattle.action_schemas.proofs.schemas.schemas_of.Given as goal

abbrev pub invariant-loop-action : goal.invariant-loop-action
invariant-loop-action l = IsMadeOf (in_turn (map (spec.schemas l.numbering.domain l.numbering.problem) (take l.action-index l.actions)) l.next) l.made
