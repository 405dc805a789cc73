use Rattle.std.proofs.Common.{◌≡◌, map}
use Rattle.std.specs.List.{flat_map}
use Rattle.ground_task.specs.GroundTask.{action_row}
use Rattle.reachable_instances.specs.Trimmed.{rows_left}
use Rattle.reachable_instances.proofs.trimmed.actions.Given as goal

abbrev pub invariant-loop-candidate : goal.invariant-loop-candidate
invariant-loop-candidate l = map action_row l.actions.items ≡ flat_map (rows_left l.tables l.facts) l.yielded
