use Rattle.std.proofs.Common.{◌≡◌, map, take}
use Rattle.normal_task.specs.Meaning.{object_at}
use Rattle.ground_task.proofs.places.objects_at.Given as goal

abbrev pub invariant-loop-place : goal.invariant-loop-place
invariant-loop-place l = l.objects ≡ map (object_at l.binding) (take l.place-index l.places)
