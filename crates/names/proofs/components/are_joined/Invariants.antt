use Rattle.std.proofs.Common.{◌≡◌, ℕ, ◌<◌, true}
use Rattle.names.specs.Components.{is_joined}
use Rattle.names.proofs.components.are_joined.Given as goal

abbrev pub invariant-loop-number : goal.invariant-loop-number
invariant-loop-number l = (number : ℕ) → number < l.number → is_joined l.arcs l.against l.along number ≡ true
