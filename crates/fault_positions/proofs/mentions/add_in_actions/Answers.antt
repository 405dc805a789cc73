use Rattle.fault_positions.specs.Mentions.{in_action}
use Rattle.fault_positions.specs.Seen.{all_seen}
use Rattle.lists.proofs.LoopSteps.{flat_map_turn}
use Rattle.fault_positions.proofs.mentions.add_in_actions.Goals as goal

pub loop-action-preserved : goal.loop-action-preserved
loop-action-preserved c =
    flat_map_turn c.args.actions.now c.loop-action.action-index c.action-item.result c.loop-action-test.true c.action-item.is
    in_action (all_seen c.args.mentions.now.items) (all_seen c.loop-action.mentions.items) (all_seen c.add_in_action.new.mentions.items) c.loop-action.invariant c.in_ok-add_in_action.ensures
