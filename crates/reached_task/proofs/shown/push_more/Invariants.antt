use Rattle.std.proofs.Common.{◌≡◌, ◌++◌, take}
use Rattle.std.specs.Prelude.{codes}
use Rattle.std.specs.List.{flat_map}
use Rattle.reached_task.specs.Reachable.{object_of}
use Rattle.reached_task.proofs.shown.push_more.Given as goal

abbrev pub invariant-loop-object : goal.invariant-loop-object
invariant-loop-object l = l.text.items ≡ l.initial.text.items ++ flat_map (λ object. codes ", " ++ object_of l.task object) (take l.object-index l.objects)
