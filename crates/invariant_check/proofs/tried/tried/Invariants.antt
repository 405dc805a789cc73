use Rattle.std.proofs.Common.{◌≡◌, ◌++◌, ◌+◌, drop, length}
use Rattle.contradictions.specs.Merges.{all_ranges}
use Rattle.invariant_check.specs.Attempts.{tried}
use Rattle.invariant_check.proofs.tried.tried.Given as goal

abbrev pub invariant-loop-index : goal.invariant-loop-index
invariant-loop-index l =
    tried l.normal (all_ranges l.ranges) l.required l.delete (length l.ranges.parameters.now) l.delete.variables
    ≡ l.all.items ++ tried l.normal (all_ranges l.ranges) l.required l.delete (length l.ranges.parameters.now + l.index) (drop l.index l.delete.variables)
