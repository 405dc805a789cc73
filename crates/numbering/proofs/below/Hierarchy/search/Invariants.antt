use Rattle.numbering.specs.Below.{Grows}
use Rattle.numbering.proofs.below.Hierarchy.search.Given as goal

abbrev pub invariant-loop : goal.invariant-loop
invariant-loop l = Grows l.self.entries.now l.initial.found l.found
