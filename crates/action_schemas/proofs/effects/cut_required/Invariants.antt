use Rattle.std.proofs.Common.{map, take}
use Rattle.normal_rows.specs.MadeThings.{IsMadeOf}
use Rattle.action_schemas.specs.Cuts.{cuts_of, wanted_of}
use Rattle.normal_task.specs.Parts.{all_of}
use Rattle.action_schemas.proofs.effects.cut_required.Given as goal

abbrev pub invariant-loop-one : goal.invariant-loop-one
invariant-loop-one l = IsMadeOf (wanted_of l.wanted (all_of l.around (map (λ cut. cut l.around) (cuts_of l.numbering.domain l.numbering.problem (take l.one-index l.required))) l.next)) l.made
