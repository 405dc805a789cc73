use Rattle.std.proofs.Common.{◌*◌, ◌-◌, length, sum}
use Rattle.axiom_layers.specs.Arcs.{AreHeld}
use Rattle.axiom_layers.proofs.lifting.settle.Given as goal

abbrev pub invariant-loop : goal.invariant-loop
invariant-loop l = AreHeld l.arcs l.layers

-- no layer reaches the number of facts
abbrev pub decreases-loop : goal.decreases-loop
decreases-loop l = length l.layers * length l.layers - sum l.layers
