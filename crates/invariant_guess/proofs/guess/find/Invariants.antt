use Rattle.std.proofs.Common.{◌-◌}
use Rattle.invariant_guess.proofs.Trying.{IsTrying}
use Rattle.invariant_guess.proofs.guess.find.Given as goal

abbrev pub invariant-loop-tried : goal.invariant-loop-tried
invariant-loop-tried l = IsTrying l.normal l.max l.queue.keys l.tried l.accepted.items

abbrev pub decreases-loop-tried : goal.decreases-loop-tried
decreases-loop-tried l = l.max - l.tried
