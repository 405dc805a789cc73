use Rattle.fault_positions.specs.Mentions.{in_axiom}
use Rattle.fault_positions.specs.Seen.{all_seen}
use Rattle.lists.proofs.LoopSteps.{flat_map_turn}
use Rattle.fault_positions.proofs.mentions.add_in_axioms.Goals as goal

pub loop-rule-preserved : goal.loop-rule-preserved
loop-rule-preserved c =
    flat_map_turn c.args.axioms.now c.loop-rule.rule-index c.rule-item.result c.loop-rule-test.true c.rule-item.is
    in_axiom (all_seen c.args.mentions.now.items) (all_seen c.loop-rule.mentions.items) (all_seen c.add_in_axiom.new.mentions.items) c.loop-rule.invariant c.in_ok-add_in_axiom.ensures
