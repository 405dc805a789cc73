use Rattle.std.proofs.Common.{map, take}
use Rattle.normal_rows.specs.MadeThings.{IsMadeOf}
use Rattle.action_schemas.specs.Cuts.{cuts_of}
use Rattle.normal_task.specs.Normalised as spec
use Rattle.normal_task.specs.Parts.{in_turn}
use Rattle.action_schemas.proofs.effects.+rows_of.Given as goal

abbrev pub invariant-rows_of_all-loop-member : goal.invariant-rows_of_all-loop-member
invariant-rows_of_all-loop-member l =
    IsMadeOf (in_turn (map (λ member. member (cuts_of l.numbering.domain l.numbering.problem l.around.required.now) l.around.scope.now l.around.count) (map (spec.rows_of l.numbering.domain l.numbering.problem) (take l.member-index l.members))) l.next) l.made
