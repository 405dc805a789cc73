use Rattle.std.proofs.Common.{map, take}
use Rattle.normal_task.specs.Parts as spec
use Rattle.normal_rows.specs.MadeThings.{IsMadeOf}
use Rattle.action_schemas.specs.Cuts.{combined, wanted_of}
use Rattle.action_schemas.proofs.conditions.+cut_wanted.Given as goal

abbrev pub invariant-cut_members-loop-member : goal.invariant-cut_members-loop-member
invariant-cut_members-loop-member l =
    IsMadeOf (wanted_of l.wanted (combined l.every l.here.around (map (λ member. member.cut l.positive l.here.scope.now l.here.around) (map (spec.known l.here.numbering.now.domain l.here.numbering.now.problem) (take l.member-index l.members))) l.next)) l.made
