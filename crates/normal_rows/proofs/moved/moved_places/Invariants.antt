use Rattle.std.proofs.Common.{◌≡◌, map, take}
use Rattle.normal_task.specs.Parts as spec
use Rattle.normal_rows.proofs.moved.moved_places.Given as goal

abbrev pub invariant-loop-place : goal.invariant-loop-place
invariant-loop-place l = l.moved.items ≡ map (spec.moved_place l.from l.by) (take l.place-index l.places)
