use Rattle.std.proofs.Common.{◌≡◌, ◌++◌, map, take}
use Rattle.std.specs.Prelude.{filter}
use Rattle.reached_task.specs.ReachedTask.{is_derived}
use Rattle.axiom_layers.specs.Arcs.{arc_to}
use Rattle.axiom_layers.proofs.arcs.push_arcs.Given as goal

abbrev pub invariant-loop-low : goal.invariant-loop-low
invariant-loop-low l = l.arcs.items ≡ l.initial.arcs.items ++ map (arc_to l.fact) (filter (is_derived l.reached.facts) (take l.low-index l.literals))
