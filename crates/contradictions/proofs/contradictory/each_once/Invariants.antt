use Rattle.std.proofs.Common.{take}
use Rattle.lists.specs.SameMembers.{SameMembers}
use Rattle.contradictions.proofs.contradictory.each_once.Given as goal

abbrev pub invariant-loop-term : goal.invariant-loop-term
invariant-loop-term l = SameMembers l.once.items (take l.term-index l.terms)
