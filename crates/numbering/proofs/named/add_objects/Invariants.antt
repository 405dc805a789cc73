use Rattle.std.proofs.Common.{◌≡◌, ◌++◌, map, take}
use Rattle.numbering.proofs.named.add_objects.Given as goal

abbrev pub invariant-loop-object : goal.invariant-loop-object
invariant-loop-object l = l.names ≡ l.initial.names ++ map (λ object. object.name.name) (take l.object-index l.objects)
