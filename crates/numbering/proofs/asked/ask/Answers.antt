use Rattle.std.proofs.Common.{map}
use Rattle.numbering.proofs.AskedTypes.{asked_turn}
use Rattle.numbering.proofs.asked.ask.Goals as goal

pub loop-mention-preserved : goal.loop-mention-preserved
loop-mention-preserved c =
    asked_turn c.args.mentions.now c.loop-mention.mention-index c.mention-item.result c.loop-mention-test.true c.mention-item.is
    (map (λ listed. listed.now) c.args.asked.now.items) (map (λ listed. listed.now) c.loop-mention.asked.items) (map (λ listed. listed.now) c.ask_at.new.asked.items) c.loop-mention.invariant c.in_ok-ask_at.ensures
