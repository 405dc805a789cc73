use Rattle.std.proofs.Common.{List, [], true, length, ap, subst, ◌∙◌}
use Rattle.std.specs.Prelude.{IfOk}
use Rattle.pddl_syntax.specs.declared.types.Typed.{Typed}
use Rattle.normal_task.specs.Parts.{Scope, parts, scope_inside}
use Rattle.normal_rows.specs.MadeThings.{IsMadeOf}
use Rattle.normaliser.proofs.axioms.body_parts.Goals as goal

pub returns : goal.returns
returns c =
    let domain = c.args.numbering.now.domain in
    let problem = c.args.numbering.now.problem in
    subst (λ (s : Scope). IfOk c.parts_in.result (IsMadeOf (parts domain problem c.args.rule.now.body true s (length c.args.rule.now.head.variables) c.args.next)))
    (c.in_ok-scope.ensures ∙ ap (λ (l : List Typed). scope_inside domain problem l 0 []) c.as_slice-variables.ensures)
    c.parts_in.ensures
