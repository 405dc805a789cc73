use Rattle.std.proofs.Common.{◌≡◌, ◌++◌, take}
use Rattle.contradictions.proofs.contradictory.push_copies.Given as goal

abbrev pub invariant-loop-place : goal.invariant-loop-place
invariant-loop-place l = l.terms.items ≡ l.initial.terms.items ++ take l.place-index l.places
