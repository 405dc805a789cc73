use Rattle.axiom_layers.specs.Arcs.{AreHeld}
use Rattle.axiom_layers.proofs.lifting.lift_along.Given as goal

abbrev pub invariant-loop-place : goal.invariant-loop-place
invariant-loop-place l = AreHeld l.arcs l.layers
