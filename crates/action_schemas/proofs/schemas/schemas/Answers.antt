use Rattle.std.proofs.Common.{List, [], ap, subst, ◌∙◌}
use Rattle.std.specs.Prelude.{IfOk}
use Rattle.pddl_syntax.specs.declared.types.Typed.{Typed}
use Rattle.normal_task.specs.Parts.{Scope, scope_inside}
use Rattle.normal_rows.specs.MadeThings.{IsMadeOf}
use Rattle.action_schemas.specs.SchemaRows.{schemas_in_scope}
use Rattle.action_schemas.proofs.schemas.schemas.Goals as goal

pub returns : goal.returns
returns c =
    let domain = c.args.numbering.now.domain in
    let problem = c.args.numbering.now.problem in
    subst (λ (s : Scope). IfOk c.schemas_in.result (IsMadeOf (schemas_in_scope domain problem c.args.action.now s c.args.next)))
    (c.in_ok-scope.ensures ∙ ap (λ (l : List Typed). scope_inside domain problem l 0 []) c.as_slice-parameters.ensures)
    c.schemas_in.ensures
