-- What is left is a choice for the task, and the restriction to it is the projection.
use Rattle.std.proofs.Common.{◌≡◌, Bool, map, sym, ap, subst, ◌∙◌}
use Rattle.std.proofs.lemmas.Result.{IfOk-weaker}
use Rattle.sas_task.specs.declared.parts.Operator.{Operator}
use Rattle.sas_restriction.specs.Listed.{Listed, chosen, with_operators}
use Rattle.sas_restriction.specs.Choice.{IsChoice, is_busy}
use Rattle.sas_restriction.specs.Restriction.{restriction}
use Rattle.task_simplifier.specs.Projection.{kept_in, projected, nothing_twice, IsProjection}
use Rattle.task_simplifier.proofs.Projected.{choice}
use Rattle.task_simplifier.proofs.projection.simplify.Goals as goal

pub into_restriction-requires : goal.into_restriction-requires
into_restriction-requires c =
    let valid = c.is_valid.ensures in
    let left = c.in_ok-left.ensures in
    let operators = (projected (kept_in left.kept) c.args.task).operators in
    record {
      marks = (
        operators,
        (c.as_slice.ensures.value ∙ left.marks_are ∙ ap (λ (l : Listed). map (is_busy (chosen l)) c.args.task.operators) left.shown_is),
        subst (λ (l : Listed). IsChoice (with_operators l operators) c.args.task) (sym left.shown_is) (choice c.args.task valid (kept_in left.kept) left.are),
      );
    }

pub returns : goal.returns
returns c =
    let left = c.in_ok-left.ensures in
    let operators = (projected (kept_in left.kept) c.args.task).operators in
    IfOk-weaker c.into_restriction.result
    (λ new. (leaves : Operator → Bool) → c.as_slice.result.now ≡ map leaves c.args.task.operators → new ≡ restriction nothing_twice (with_operators c.in_ok-left.left.shown leaves) c.args.task)
    (IsProjection c.args.task)
    (λ new is. record {
      kept = left.kept;
      count = left.count;
      are = left.are;
      same = is operators (c.as_slice.ensures.value ∙ left.marks_are ∙ ap (λ (l : Listed). map (is_busy (chosen l)) c.args.task.operators) left.shown_is)
          ∙ ap (λ (l : Listed). restriction nothing_twice (with_operators l operators) c.args.task) left.shown_is;
    })
    c.into_restriction.ensures
