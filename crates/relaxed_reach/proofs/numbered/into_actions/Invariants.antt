use Rattle.std.proofs.Common.{◌≡◌, map}
use Rattle.ground_task.specs.GroundTask.{action_row as ground_action}
use Rattle.ground_task.specs.Settled.{kept_actions}
use Rattle.reached_task.specs.Reachable.{numbering}
use Rattle.reached_task.specs.ReachedTask.{action_row}
use Rattle.relaxed_reach.proofs.numbered.into_actions.Given as goal

abbrev pub invariant-loop-row : goal.invariant-loop-row
invariant-loop-row l = map action_row l.kept.items ≡ kept_actions (numbering l.facts) (map ground_action l.yielded)
