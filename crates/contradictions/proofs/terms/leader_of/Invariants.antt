use Rattle.std.proofs.Common.{◌≡◌, take}
use Rattle.contradictions.specs.Merges.{leader}
use Rattle.contradictions.proofs.terms.leader_of.Given as goal

abbrev pub invariant-loop-merge : goal.invariant-loop-merge
invariant-loop-merge l = l.leader ≡ leader (take l.merge-index l.merges) l.term
