use Rattle.contradictions.proofs.Shared.{next_turn, next_none}
use Rattle.contradictions.proofs.common.next_shared.Goals as goal

pub loop-member-preserved : goal.loop-member-preserved
loop-member-preserved c =
    next_turn c.args.class.now c.loop-member.member-index c.member-item.result c.loop-member-test.true c.member-item.is c.args.least c.loop-member.next c.loop-member.invariant c.in-Some.object c.in-Some.ensures

pub returns-in-None : goal.returns-in-None
returns-in-None c =
    next_none c.args.class.now c.loop-member.member-index c.member-item.result c.loop-member-test.true c.member-item.is c.args.least c.loop-member.next c.loop-member.invariant c.in-None.ensures
