use Rattle.std.proofs.Common.{◌≡◌, ◌++◌, map, take}
use Rattle.normaliser.proofs.normal.push_names.Given as goal

abbrev pub invariant-loop-object : goal.invariant-loop-object
invariant-loop-object l = l.names.items ≡ l.initial.names.items ++ map (λ object. object.name.name) (take l.object-index l.objects)
