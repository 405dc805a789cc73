use Rattle.std.proofs.Common.{◌++◌, ap, ◌∙◌}
use Rattle.fault_positions.specs.Mentions.{in_init}
use Rattle.fault_positions.specs.Seen.{all_seen}
use Rattle.lists.proofs.LoopSteps.{flat_map_turn}
use Rattle.fault_positions.proofs.mentions.add_in_init.Goals as goal

pub loop-entry-preserved : goal.loop-entry-preserved
loop-entry-preserved c =
    flat_map_turn c.args.init.now c.loop-entry.entry-index c.entry-item.result c.loop-entry-test.true c.entry-item.is
    in_init (all_seen c.args.mentions.now.items) (all_seen c.loop-entry.mentions.items) (all_seen c.add.new.mentions.items) c.loop-entry.invariant (c.in_ok-add.ensures ∙ ap (λ piece. all_seen c.loop-entry.mentions.items ++ piece) c.mention_in_entry.ensures)
