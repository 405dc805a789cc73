-- Words that the private contracts of the count share. No public clause cites them.
use Rattle.std.specs.Prelude.{◌≡◌, ℕ, ◌+◌, ◌<◌, ◌≤◌, Bool, ◌==◌, List, All, length, slice_index_or, if◌then◌else◌}
use Rattle.sas_task.specs.declared.parts.Operator.{Operator}
use Rattle.sas_task.specs.Task.{Task}
use Rattle.sas_restriction.specs.Reordered.{changing_operators}
use Rattle.task_simplifier.specs.declared.tallies.Tally.{Tally}

-- a tally counts at most one operator a turn
pub record IsTally (turn : ℕ) (tally : Tally) : Type 0 where
  pub fair : tally.operators ≤ tally.last
  pub past : tally.last ≤ turn

-- the tally once an operator of this turn changes the variable
abbrev pub counted_in : ℕ → Tally → Tally
counted_in turn tally = if tally.last == turn then tally else record { operators = tally.operators + 1; last = turn }

-- the tallies once the operator of this turn is counted at the variables that pass the test
pub record AreCounted (turn : ℕ) (test : ℕ → Bool) (old new : List Tally) : Type 0 where
  pub count : length new ≡ length old
  pub at : (var : ℕ) (d : Tally) → var < length old → slice_index_or new var d ≡ (if test var then counted_in turn (slice_index_or old var d) else slice_index_or old var d)

-- the tallies of the task's variables once these operators are counted, one a turn
pub record AreTallies (task : Task) (turn : ℕ) (operators : List Operator) (tallies : List Tally) : Type 0 where
  pub count : length tallies ≡ length task.variables
  pub operators_at : (var : ℕ) (d : Tally) → var < length task.variables → (slice_index_or tallies var d).operators ≡ changing_operators operators var
  pub fair : All (IsTally turn) tallies
