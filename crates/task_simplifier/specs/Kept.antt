-- The kept values of a variable: those that it may ever have, as far as the variable alone shows.
use Rattle.std.specs.Prelude.{ℕ, ◌<◌, List, length, Contains, slice_index}
use Rattle.std.specs.List.Sorted.{IsStrictlyIncreasing}
use Rattle.sas_task.specs.Task.{Task}
use Rattle.sas_restriction.specs.Closed.{EffectTransition, RuleTransition}

-- the least set that holds the initial value and is closed under the variable's transitions
pub data IsKept (task : Task) (var : ℕ) : ℕ → Type 0 where
  Initial : IsKept task var (slice_index task.state var)
  ByEffect : (val next : ℕ) → IsKept task var val → EffectTransition task var val next → IsKept task var next
  ByRule : (val next : ℕ) → IsKept task var val → RuleTransition task var val next → IsKept task var next

-- these are the kept values of each variable, in order
pub record AreKept (task : Task) (kept : ℕ → List ℕ) : Type 0 where
  pub sorted : (var : ℕ) → var < length task.variables → IsStrictlyIncreasing (kept var)
  pub only : (var val : ℕ) → var < length task.variables → Contains (kept var) val → IsKept task var val
  pub each : (var val : ℕ) → var < length task.variables → IsKept task var val → Contains (kept var) val
