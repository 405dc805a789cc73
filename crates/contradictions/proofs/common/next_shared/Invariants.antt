use Rattle.std.proofs.Common.{map, take, Some}
use Rattle.contradictions.specs.Common.{objects_in, IsNextShared}
use Rattle.contradictions.proofs.common.next_shared.Given as goal

abbrev pub invariant-loop-member : goal.invariant-loop-member
invariant-loop-member l = IsNextShared (map objects_in (take l.member-index l.class)) l.least (Some l.next)
