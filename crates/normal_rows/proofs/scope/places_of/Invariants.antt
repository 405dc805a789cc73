use Rattle.std.proofs.Common.{◌≡◌, take}
use Rattle.normal_task.specs.Parts as spec
use Rattle.normal_rows.proofs.scope.places_of.Given as goal

abbrev pub invariant-loop-term : goal.invariant-loop-term
invariant-loop-term l = l.places.items ≡ spec.places_of l.numbering.domain l.numbering.problem l.scope (take l.term-index l.terms)
