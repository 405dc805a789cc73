use Rattle.pddl_syntax.specs.Step.{increases}
use Rattle.normal_rows.proofs.FirstItems.{first-found}
use Rattle.normal_rows.proofs.increases.+first_increase.Goals as goal

pub first_increase_of-returns-in-Some : goal.first_increase_of-returns-in-Some
first_increase_of-returns-in-Some t c =
    first-found increases c.args.members.now c.loop-member.member-index c.member-item.result c.loop-member-test.true c.member-item.is
    c.loop-member.invariant c.in-Some.cost.now c.in-Some.ensures
