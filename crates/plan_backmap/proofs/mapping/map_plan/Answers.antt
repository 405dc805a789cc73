use Rattle.std.proofs.Common.{◌≡◌, [], subst}
use Rattle.std.specs.Prelude.{OnOk}
use Rattle.lists.specs.Stops.{IfFault, IsFirst}
use Rattle.lists.proofs.Stops.{is_answered, is_fault}
use Rattle.sas_task.specs.Task.{Task}
use Rattle.plan_backmap.specs.Lines.{plan_lines}
use Rattle.plan_backmap.specs.Plans.{faults}
use Rattle.plan_backmap.proofs.mapping.map_plan.Goals as goal

pub returns-clause-first : goal.returns-clause-first
returns-clause-first c =
    subst (λ (task : Task). IfFault c.map_lines.result (IsFirst (faults task.operators (plan_lines c.args.bytes.now)))) c.in_ok-costs.ensures c.map_lines.ensures.first

pub returns-clause-ok : goal.returns-clause-ok
returns-clause-ok c = is_answered _ c.map_lines.result (returns-clause-first c)

pub returns-clause-fault : goal.returns-clause-fault
returns-clause-fault c =
    is_fault _ c.map_lines.result (subst (λ (task : Task). OnOk c.map_lines.result (faults task.operators (plan_lines c.args.bytes.now) ≡ [])) c.in_ok-costs.ensures c.map_lines.ensures.faultless) (returns-clause-first c)
