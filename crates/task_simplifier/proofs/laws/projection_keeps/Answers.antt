use Rattle.std.proofs.Common.{sym, subst}
use Rattle.sas_task.specs.Task.{Task}
use Rattle.sas_task.specs.Valid.{IsValid}
use Rattle.sas_task.specs.Keeps.{Keeps, KeepsChanging}
use Rattle.sas_restriction.proofs.Valid.{restriction_valid}
use Rattle.sas_restriction.proofs.Arranged.{restricts}
use Rattle.sas_restriction.proofs.Stands.{keeps, keeps_changing}
use Rattle.task_simplifier.specs.Projection.{projected, nothing_twice, project_to, kept_in, IsProjection}
use Rattle.task_simplifier.proofs.Projected.{choice, may, told}
use Rattle.task_simplifier.proofs.OneProjection.{one_projection}
use Rattle.task_simplifier.proofs.laws.projection_keeps.Goals as goal

module _ (T P : Task) (valid : IsValid T) (is : IsProjection T P) where
  projection_valid : IsValid P
  projection_valid =
      let C = projected (kept_in is.kept) T in
      let chosen = choice T valid (kept_in is.kept) is.are in
      subst IsValid (sym is.same) (restriction_valid C T (project_to (kept_in is.kept) T) valid chosen (restricts nothing_twice C T valid chosen))

  projection_stands : Keeps T P
  projection_stands =
      let C = projected (kept_in is.kept) T in
      let chosen = choice T valid (kept_in is.kept) is.are in
      subst (Keeps T) (sym is.same) (keeps C T (project_to (kept_in is.kept) T) valid chosen (restricts nothing_twice C T valid chosen) (may T valid (kept_in is.kept) is.are))

  projection_changing : KeepsChanging T P
  projection_changing =
      let C = projected (kept_in is.kept) T in
      let chosen = choice T valid (kept_in is.kept) is.are in
      subst (KeepsChanging T) (sym is.same) (keeps_changing C T (project_to (kept_in is.kept) T) valid chosen (restricts nothing_twice C T valid chosen) (may T valid (kept_in is.kept) is.are) (told T valid (kept_in is.kept) is.are))

pub returns : goal.returns
returns c = record { one = one_projection; valid = projection_valid; stands = projection_stands; changing = projection_changing }
