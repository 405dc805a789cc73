use Rattle.std.proofs.Common.{map, take}
use Rattle.normal_rows.specs.MadeThings.{IsMadeOf}
use Rattle.normal_task.specs.Normalised as spec
use Rattle.normal_task.specs.Parts.{in_turn}
use Rattle.normaliser.proofs.axioms.axioms_of.Given as goal

abbrev pub invariant-loop-rule : goal.invariant-loop-rule
invariant-loop-rule l = IsMadeOf (in_turn (map (spec.axiom_rows l.numbering.domain l.numbering.problem) (take l.rule-index l.rules)) l.next) l.made
