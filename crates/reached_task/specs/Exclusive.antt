-- Facts of which at most one is true at a time.
use Rattle.std.specs.Prelude.{◌≡◌, ℕ, true, List, Contains}
use Rattle.planning.specs.Task.{State}
use Rattle.planning.specs.Plan.{IsReachable}
use Rattle.ground_task.specs.Literals.{meaning}
use Rattle.reached_task.specs.declared.types.Reached.{Reached}
use Rattle.reached_task.specs.ReachedTask.{reached_task}

-- at most one fact of the list is true in the state
abbrev pub AtMostOne : State ℕ → List ℕ → Type 0
AtMostOne state facts = (f g : ℕ) → Contains facts f → Contains facts g → state f ≡ true → state g ≡ true → f ≡ g

-- at most one fact of the list is true in every reachable state of the reached task
abbrev pub IsExclusive : Reached → List ℕ → Type 0
IsExclusive reached facts = (state : State ℕ) → IsReachable (meaning (reached_task reached)) state → AtMostOne state facts
