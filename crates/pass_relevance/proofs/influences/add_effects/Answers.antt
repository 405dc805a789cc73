use Rattle.lists.proofs.LoopSteps.{flat_map_turn}
use Rattle.pass_relevance.specs.Influences.{arcs_of_effect}
use Rattle.pass_relevance.proofs.influences.add_effects.Goals as goal

pub loop-effect-preserved : goal.loop-effect-preserved
loop-effect-preserved c =
    flat_map_turn c.args.effects.now c.loop-effect.effect-index c.effect-item.result c.loop-effect-test.true c.effect-item.is
    (arcs_of_effect c.args.node) c.args.arcs.now.items c.loop-effect.arcs.items c.add_effect.new.arcs.items c.loop-effect.invariant c.in_ok-add_effect.ensures
