use Rattle.std.proofs.Common.{ap, ◌∙◌}
use Rattle.pddl_syntax.specs.declared.types.Domain.{Domain}
use Rattle.pddl_syntax.specs.declared.types.Problem.{Problem}
use Rattle.numbering.proofs.NewNames.{constants_new, objects_new}
use Rattle.numbering.proofs.named.names_of_objects.Goals as goal

pub add_objects-requires : goal.add_objects-requires
add_objects-requires c =
    constants_new c.args.task.now.domain c.args.task.now.problem c.domain-domain.ensures.checked.faultless c.new-objects.result c.as_slice.result.now c.new-objects.ensures
    (c.as_slice.ensures ∙ ap (λ (d : Domain). d.constants) c.domain-domain.ensures.value)

pub add_objects-requires-2 : goal.add_objects-requires-2
add_objects-requires-2 c =
    objects_new c.args.task.now.domain c.args.task.now.problem c.domain-domain.ensures.checked.faultless c.new-objects.result c.add_objects.new.names c.as_slice.result.now c.as_slice-2.result.now c.new-objects.ensures
    (c.as_slice.ensures ∙ ap (λ (d : Domain). d.constants) c.domain-domain.ensures.value) (c.as_slice-2.ensures ∙ ap (λ (p : Problem). p.objects) c.problem-problem.ensures.value) c.in_ok-add_objects.ensures
