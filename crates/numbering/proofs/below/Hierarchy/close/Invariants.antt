use Rattle.std.proofs.Common.{◌≡◌, ◌+◌, ◌*◌, false}
use Rattle.std.specs.Prelude.{if◌then◌else◌}
use Rattle.numbering.specs.Below.{Grows, IsClosed, missing}
use Rattle.numbering.proofs.below.Hierarchy.close.Given as goal

abbrev pub decreases-loop-has_grown : goal.decreases-loop-has_grown
decreases-loop-has_grown l = 2 * missing l.self.entries.now l.found + (if l.has_grown then 1 else 0)

abbrev pub invariant-loop-has_grown : goal.invariant-loop-has_grown
invariant-loop-has_grown l = record {
  grows : Grows l.self.entries.now l.initial.found l.found;
  closed : l.has_grown ≡ false → IsClosed l.self.entries.now l.found;
}
