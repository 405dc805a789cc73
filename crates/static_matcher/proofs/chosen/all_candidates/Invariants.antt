use Rattle.std.proofs.Common.{◌≡◌, take}
use Rattle.std.specs.List.{flat_map, All}
use Rattle.ground_task.specs.Instances.{actions_of, static_settling}
use Rattle.ground_task.specs.Settled.{kept_actions}
use Rattle.static_matcher.specs.Candidates.{rows_of, IsCandidate}
use Rattle.static_matcher.proofs.chosen.all_candidates.Given as goal

abbrev pub invariant-loop-schema : goal.invariant-loop-schema
invariant-loop-schema l =
    (flat_map (rows_of l.tables) l.candidates.items ≡ kept_actions (static_settling l.tables) (flat_map (actions_of l.tables) (take l.schema-index l.schema-items)))
    × All (IsCandidate l.tables) l.candidates.items
