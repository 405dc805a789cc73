use Rattle.std.proofs.Common.{◌≡◌, []}
use Rattle.static_matcher.specs.Partial.{all_ranges}
use Rattle.static_matcher.proofs.Searching.{AddsBelow, StandsAt}
use Rattle.static_matcher.proofs.partial.Scope.has_object.Given as goal

abbrev pub invariant-loop-object : goal.invariant-loop-object
invariant-loop-object l =
    (l.partial ≡ l.initial.partial)
    × AddsBelow (StandsAt (all_ranges l.self.start.now l.self.ranges.now) l.variable) l.self.tables.now l.self.literals.now (all_ranges l.self.start.now l.self.ranges.now) l.initial.partial [] [] l.object-index
