use Rattle.std.proofs.Common.{◌≡◌, map}
use Rattle.std.specs.List.{flat_map}
use Rattle.ground_task.specs.GroundTask.{action_row}
use Rattle.static_matcher.specs.Candidates.{rows_of}
use Rattle.static_matcher.proofs.grounding.actions_of.Given as goal

abbrev pub invariant-loop-candidate : goal.invariant-loop-candidate
invariant-loop-candidate l = map action_row l.actions.items ≡ flat_map (rows_of l.tables) l.yielded
