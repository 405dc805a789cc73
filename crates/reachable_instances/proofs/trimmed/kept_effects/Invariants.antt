use Rattle.std.proofs.Common.{◌≡◌, map}
use Rattle.std.specs.Prelude.{filter}
use Rattle.ground_task.specs.GroundTask.{effect_row}
use Rattle.reachable_instances.specs.Trimmed.{can_take_place}
use Rattle.reachable_instances.proofs.trimmed.kept_effects.Given as goal

abbrev pub invariant-loop-effect : goal.invariant-loop-effect
invariant-loop-effect l = map effect_row l.kept.items ≡ filter (can_take_place l.tables l.facts) (map effect_row l.yielded)
