use Rattle.std.proofs.Common.{◌++◌, map, ap, ◌∙◌}
use Rattle.pddl_syntax.specs.declared.types.Domain.{Domain}
use Rattle.pddl_syntax.specs.declared.types.Problem.{Problem}
use Rattle.normal_task.specs.Normalised.{declared_row, fresh_predicates}
use Rattle.normaliser.proofs.WholeTask.{normal-is}
use Rattle.normaliser.proofs.normal.normal_of.Goals as goal

pub returns : goal.returns
returns c =
    normal-is c.args.numbering.now.domain c.args.numbering.now.problem
    c.in_ok-object_names.field-0 c.in_ok-object_names.ensures
    c.in_ok-predicate_rows.field-0 c.as_slice.result.now (c.as_slice.ensures ∙ c.requires.fresh)
    (c.in_ok-predicate_rows.ensures c.args.numbering.now.problem
    ∙ ap (λ (d : Domain). map (declared_row d c.args.numbering.now.problem) d.predicates ++ fresh_predicates d c.args.numbering.now.problem 0 c.as_slice.result.now) c.domain.ensures)
    c.args.made.schemas c.requires.schemas
    c.in_ok-all_axioms.field-0 c.args.made.axioms c.as_slice-2.result.now (c.as_slice-2.ensures ∙ c.requires.fresh) c.requires.axioms c.in_ok-all_axioms.ensures
    c.as_slice-entries.result.now (c.as_slice-entries.ensures ∙ ap (λ (p : Problem). p.init) c.problem.ensures)
    c.in_ok-stated_atoms.field-0 c.in_ok-stated_atoms.ensures
    c.in_ok-stated_values.field-0 c.in_ok-stated_values.ensures
    c.args.made.goal c.requires.goal c.problem-2.result.now.metric (ap (λ (p : Problem). p.metric) c.problem-2.ensures)
