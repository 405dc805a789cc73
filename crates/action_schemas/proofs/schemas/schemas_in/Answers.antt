use Rattle.std.proofs.Common.{ℕ, ◌+◌, ap, subst, ◌∙◌}
use Rattle.std.specs.Prelude.{IfOk}
use Rattle.normal_task.specs.declared.task.Schema.{Schema}
use Rattle.normal_task.specs.Parts.{Made}
use Rattle.normal_rows.specs.MadeThings.{IsMadeOf}
use Rattle.action_schemas.proofs.SchemaRows.{schemas-in}
use Rattle.action_schemas.proofs.schemas.schemas_in.Goals as goal

pub returns : goal.returns
returns c =
    subst (λ (made : Made Schema). IfOk c.schemas_from.result (IsMadeOf made))
    (schemas-in c.args.numbering.now.domain c.args.numbering.now.problem c.args.action.now c.args.scope.now c.args.next c.len-around.result c.len-around.ensures
    c.in_ok-parts.parts.items c.in_ok-parts.parts.fresh c.in_ok-parts.ensures
    c.in_ok-start.start (c.in_ok-start.ensures ∙ ap (λ (n : ℕ). c.args.next + n) c.len.ensures) c.in_ok-rows.rows.items c.in_ok-rows.rows.fresh c.in_ok-rows.ensures)
    c.schemas_from.ensures
