use Rattle.std.proofs.Common.{◌≡◌, ◌<◌, ℕ, true}
use Rattle.std.specs.List.{Contains}
use Rattle.static_matcher.specs.Partial.{is_open_variable}
use Rattle.static_matcher.proofs.partial.Scope.order.Given as goal

abbrev pub invariant-loop-variable : goal.invariant-loop-variable
invariant-loop-variable l = (variable : ℕ) → variable < l.variable → is_open_variable l.partial variable ≡ true → Contains l.order.items variable
