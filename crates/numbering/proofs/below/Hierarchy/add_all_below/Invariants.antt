use Rattle.numbering.specs.Below.{Grows}
use Rattle.numbering.proofs.below.Hierarchy.add_all_below.Given as goal

abbrev pub invariant-loop-position : goal.invariant-loop-position
invariant-loop-position l = Grows l.self.entries.now l.initial.found l.found
