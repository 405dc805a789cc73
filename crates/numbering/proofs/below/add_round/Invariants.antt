use Rattle.numbering.proofs.FoundTypes.{Round}
use Rattle.numbering.proofs.below.add_round.Given as goal

abbrev pub invariant-loop-entry : goal.invariant-loop-entry
invariant-loop-entry l = Round l.entries l.initial.found l.found l.has_grown l.entry-index
