use Rattle.std.proofs.Common.{[], ◌∙◌, subst}
use Rattle.std.specs.Prelude.{IfOk, IfErr}
use Rattle.translator.specs.Ending.{Ending}
use Rattle.run_task.specs.RunTask.{Start}
use Rattle.translator.specs.Stages.{IsMadeOf, StopsWhere}
use Rattle.translator.proofs.Stages.{starved, made_texts_are}
use Rattle.translator.proofs.translation.made_task.Goals as goal

pub returns-in_err-domain_bytes-clause-err : goal.returns-in_err-domain_bytes-clause-err
returns-in_err-domain_bytes-clause-err c = starved _ c.from_residual.result c.from_residual.ensures.1

pub returns-in_err-problem_bytes-clause-err : goal.returns-in_err-problem_bytes-clause-err
returns-in_err-problem_bytes-clause-err c = starved _ c.from_residual-in_err-problem_bytes.result c.from_residual-in_err-problem_bytes.ensures.1

pub returns-clause-ok : goal.returns-clause-ok
returns-clause-ok c =
    subst (λ (e : Ending Start). IfOk c.task_of.result (λ made. IsMadeOf e c.args.settings [] made.found made.task))
    (made_texts_are c.deref.result.now c.deref-2.result.now c.args.balls (c.deref.ensures.value ∙ c.in_ok-domain_bytes.ensures) (c.deref-2.ensures.value ∙ c.in_ok-problem_bytes.ensures)) c.task_of.ensures.ok

pub returns-clause-err : goal.returns-clause-err
returns-clause-err c =
    subst (λ (e : Ending Start). IfErr c.task_of.result (StopsWhere e))
    (made_texts_are c.deref.result.now c.deref-2.result.now c.args.balls (c.deref.ensures.value ∙ c.in_ok-domain_bytes.ensures) (c.deref-2.ensures.value ∙ c.in_ok-problem_bytes.ensures)) c.task_of.ensures.err
