use Rattle.std.proofs.Common.{◌≡◌, [], map, take}
use Rattle.pddl_syntax.specs.Holds as pddl
use Rattle.normal_task.specs.Numbers.{object_number}
use Rattle.normaliser.proofs.initial.stated_objects.Given as goal

abbrev pub invariant-loop-term : goal.invariant-loop-term
invariant-loop-term l = l.objects ≡ map (object_number l.numbering.domain l.numbering.problem) (map (pddl.object_of []) (take l.term-index l.terms))
