use Rattle.std.proofs.Common.{◌≡◌, flat_map, take}
use Rattle.contradictions.specs.Contradictory.{terms_of}
use Rattle.contradictions.proofs.contradictory.standing.Given as goal

abbrev pub invariant-loop-literal : goal.invariant-loop-literal
invariant-loop-literal l = l.terms.items ≡ flat_map terms_of (take l.literal-index l.case.literals.now)
