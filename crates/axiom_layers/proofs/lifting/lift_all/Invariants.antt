use Rattle.std.proofs.Common.{◌≡◌, ◌<◌, ◌≤◌, true, false, sum, take}
use Rattle.std.specs.List.{All}
use Rattle.axiom_layers.specs.Arcs.{AreHeld, IsAbove}
use Rattle.axiom_layers.proofs.lifting.lift_all.Given as goal

abbrev pub invariant-loop-arc : goal.invariant-loop-arc
invariant-loop-arc l = record {
  held : AreHeld l.arcs l.layers;
  no_less : sum l.initial.layers ≤ sum l.layers;
  lifts : l.lifts ≡ true → sum l.initial.layers < sum l.layers;
  stays : l.lifts ≡ false → All (IsAbove l.layers) (take l.arc-index l.arcs);
}
