use Rattle.std.proofs.Common.{ap, ◌∙◌}
use Rattle.pddl_syntax.specs.declared.types.Domain.{Domain}
use Rattle.numbering.proofs.NewNames.{predicates_new, functions_new}
use Rattle.numbering.proofs.numbering.Numbering.of.Goals as goal

pub names_of-requires : goal.names_of-requires
names_of-requires c =
    predicates_new c.args.task.now.domain c.args.task.now.problem c.domain-domain.ensures.checked.faultless c.as_slice.result.now (c.as_slice.ensures ∙ ap (λ (d : Domain). d.predicates) c.domain-domain.ensures.value)

pub names_of-requires-2 : goal.names_of-requires-2
names_of-requires-2 c =
    functions_new c.args.task.now.domain c.args.task.now.problem c.domain-domain.ensures.checked.faultless c.as_slice-2.result.now (c.as_slice-2.ensures ∙ ap (λ (d : Domain). d.functions) c.domain-domain.ensures.value)
