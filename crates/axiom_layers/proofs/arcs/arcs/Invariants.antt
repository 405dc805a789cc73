use Rattle.std.proofs.Common.{◌≡◌, take}
use Rattle.std.specs.List.{flat_map}
use Rattle.axiom_layers.specs.Arcs.{arcs_at}
use Rattle.axiom_layers.proofs.arcs.arcs.Given as goal

abbrev pub invariant-loop-row : goal.invariant-loop-row
invariant-loop-row l = l.arcs.items ≡ flat_map (arcs_at l.reached.facts) (take l.row-index l.row-items)
