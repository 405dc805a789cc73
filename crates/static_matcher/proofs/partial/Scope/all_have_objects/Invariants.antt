use Rattle.std.proofs.Common.{◌≡◌}
use Rattle.static_matcher.proofs.partial.Scope.all_have_objects.Given as goal

abbrev pub invariant-loop-variable : goal.invariant-loop-variable
invariant-loop-variable l = l.partial ≡ l.initial.partial
