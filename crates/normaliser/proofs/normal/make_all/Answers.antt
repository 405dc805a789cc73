use Rattle.std.proofs.Common.{ℕ, ◌+◌, ap, ◌∙◌}
use Rattle.pddl_syntax.specs.declared.types.Domain.{Domain}
use Rattle.normaliser.proofs.WholeTask.{made-all}
use Rattle.normaliser.proofs.normal.make_all.Goals as goal

pub returns : goal.returns
returns c =
    made-all c.args.numbering.now.domain c.args.numbering.now.problem
    c.as_slice.result.now (c.as_slice.ensures ∙ ap (λ (d : Domain). d.actions) c.domain-domain.ensures) c.in_ok-schemas.schemas.items c.in_ok-schemas.schemas.fresh c.in_ok-schemas.ensures
    c.len-after_schemas.result c.len-after_schemas.ensures
    c.as_slice-2.result.now (c.as_slice-2.ensures ∙ ap (λ (d : Domain). d.axioms) c.domain-domain.ensures) c.in_ok-axioms.axioms.items c.in_ok-axioms.axioms.fresh c.in_ok-axioms.ensures
    c.in_ok-after_axioms.after_axioms (c.in_ok-after_axioms.ensures ∙ ap (λ (n : ℕ). c.len-after_schemas.result + n) c.len.ensures)
    c.in_ok-goal.goal.items c.in_ok-goal.goal.fresh c.in_ok-goal.ensures
    c.in_ok-all.all c.in_ok-all.ensures
