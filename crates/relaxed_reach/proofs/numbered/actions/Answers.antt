use Rattle.std.proofs.Common.{map, sym, ap, ◌∙◌}
use Rattle.std.proofs.lemmas.Option.{cond_some}
use Rattle.ground_task.specs.GroundTask.{action_row as ground_action}
use Rattle.ground_task.specs.Settled.{is_open, kept_condition, kept_action}
use Rattle.reached_task.specs.Reachable.{numbering}
use Rattle.reached_task.specs.ReachedTask.{action_row}
use Rattle.relaxed_reach.proofs.KeptTurns.{is_none, action_is, kept_turn, left_turn}
use Rattle.relaxed_reach.proofs.numbered.actions.Goals.{in-Some+in_ok-name+in_ok-action+in_ok-push, in_default}
use Rattle.relaxed_reach.proofs.numbered.actions.Goals as goal

pub loop-row-preserved : goal.loop-row-preserved
loop-row-preserved c =
    let by = numbering c.args.facts.now in
    let row = c.row-item.result in
    let kept = c.loop-row.kept.items in
    elim c.match-branch-2.branch [
      | in-Some+in_ok-name+in_ok-action+in_ok-push w ↦
          let found = cond_some (is_open by row.condition) (kept_condition by row.condition) w.in-Some.condition (sym c.in_ok-condition.ensures ∙ w.in-Some.is) in
          ap (λ k. map action_row k.items) w.kept-is ∙ ap (map action_row) w.in_ok-push.ensures.items
          ∙ kept_turn action_row (kept_action by) (λ row. is_open by row.condition) ground_action c.args.actions.now c.loop-row.row-index row c.loop-row-test.true c.row-item.is kept w.in_ok-action.field-0
          c.loop-row.invariant found.0
          (w.in_ok-action.ensures
          ∙ action_is c.args.facts.now row w.in_ok-name.name w.in-Some.condition w.as_slice-effects.result.now (w.in_ok-name.ensures ∙ w.as_slice.ensures) found.1 w.as_slice-effects.ensures)
      | in_default w ↦
          ap (λ k. map action_row k.items) w.kept-is
          ∙ left_turn action_row (kept_action by) (λ row. is_open by row.condition) ground_action c.args.actions.now c.loop-row.row-index row c.loop-row-test.true c.row-item.is kept c.loop-row.invariant
          (is_none (is_open by row.condition) (kept_condition by row.condition) (sym c.in_ok-condition.ensures ∙ w.in_default.is))
    ]
