use Rattle.std.proofs.Common.{sym, ◌∙◌}
use Rattle.ground_task.specs.GroundTask.{action_row as ground_action}
use Rattle.ground_task.specs.Settled.{is_open, kept_condition, kept_action}
use Rattle.reached_task.specs.Reachable.{numbering}
use Rattle.reached_task.specs.ReachedTask.{action_row}
use Rattle.relaxed_reach.proofs.KeptTurns.{is_none, left_more}
use Rattle.relaxed_reach.proofs.numbered.into_actions.Goals as goal

pub loop-row-preserved : goal.loop-row-preserved
loop-row-preserved c =
    let by = numbering c.args.facts.now in
    let row = c.in-Some.row in
    left_more action_row (kept_action by) (λ row. is_open by row.condition) ground_action c.loop-row.yielded row c.loop-row.kept.items c.loop-row.invariant
    (is_none (is_open by row.condition) (kept_condition by row.condition) (sym c.in_ok-condition.ensures ∙ c.in_default.is))
