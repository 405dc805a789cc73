use Rattle.std.proofs.Common.{◌≡◌, ℕ, ◌<◌, ◌-◌, ◌^◌, true, map}
use Rattle.contradictions.specs.Common.{objects_in, is_missed}
use Rattle.contradictions.proofs.common.share_some.Given as goal

abbrev pub invariant-loop-next : goal.invariant-loop-next
invariant-loop-next l = (object : ℕ) → object < l.least → is_missed (map objects_in l.class) object ≡ true

abbrev pub decreases-loop-next : goal.decreases-loop-next
decreases-loop-next l = 2 ^ 64 - l.least
