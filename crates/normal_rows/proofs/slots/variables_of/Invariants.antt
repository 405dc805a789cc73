use Rattle.std.proofs.Common.{◌≡◌, map, take}
use Rattle.normal_task.specs.declared.task.Place.TheVariants as place
use Rattle.normal_rows.proofs.slots.variables_of.Given as goal

abbrev pub invariant-loop-variable : goal.invariant-loop-variable
invariant-loop-variable l = l.places.items ≡ map (λ slot. place.Variable slot.place) (take l.variable-index l.arguments)
