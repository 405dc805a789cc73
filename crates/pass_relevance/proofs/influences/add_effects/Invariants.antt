use Rattle.std.proofs.Common.{◌≡◌, ◌++◌, take}
use Rattle.std.specs.List.{flat_map}
use Rattle.pass_relevance.specs.Influences.{arcs_of_effect}
use Rattle.pass_relevance.proofs.influences.add_effects.Given as goal

abbrev pub invariant-loop-effect : goal.invariant-loop-effect
invariant-loop-effect l = l.arcs.items ≡ l.initial.arcs.items ++ flat_map (arcs_of_effect l.node) (take l.effect-index l.effects)
