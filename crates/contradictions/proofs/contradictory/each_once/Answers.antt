use Rattle.std.proofs.Common.{arith, subst}
use Rattle.std.proofs.lemmas.List.{take_all}
use Rattle.lists.specs.SameMembers.{SameMembers}
use Rattle.contradictions.proofs.EachOnce.{next_new}
use Rattle.contradictions.proofs.contradictory.each_once.Goals as goal

pub loop-term-preserved : goal.loop-term-preserved
loop-term-preserved c =
    next_new c.args.terms.now c.loop-term.term-index _ c.loop-term-test.true c.loop-term.once.items c.push_new.new.terms.items c.loop-term.invariant c.in_ok-push_new.ensures

pub returns : goal.returns
returns c = subst (SameMembers c.loop-term.once.items) (take_all c.loop-term.term-index c.args.terms.now (omega (arith, c.loop-term-test.false))) c.loop-term.invariant
