-- What the projection leaves, as the code holds it. Words of private contracts: no public clause cites them.
use Rattle.std.specs.Prelude.{◌≡◌, ℕ, Bool, List, map, filter, length, Option, None}
use Rattle.std.specs.List.{range_with_len}
use Rattle.sas_task.specs.Task.{Task}
use Rattle.sas_restriction.specs.Listed.{Listed, chosen}
use Rattle.sas_restriction.specs.Choice.{is_busy}
use Rattle.task_simplifier.specs.Kept.{AreKept}
use Rattle.task_simplifier.specs.Projection.{stays, holder, kept_in}

-- the variables that stay, of so many
abbrev pub staying : List (List ℕ) → ℕ → List ℕ
staying kept count = filter (stays (kept_in kept)) (range_with_len 0 count)

abbrev pub listed : List ℕ → List (List ℕ) → Option ℕ → Listed
listed vars kept start = record { vars = vars; values = kept; holder = start }

-- the variables that stay with the kept values, and the holder
abbrev pub left : List (List ℕ) → Task → Listed
left kept task =
    listed (staying kept (length task.variables)) kept (holder (chosen (listed (staying kept (length task.variables)) kept None)) task)

-- This is left of the task, and these of its operators are: those with an effect on a variable that stays.
pub record IsLeft (task : Task) (shown : Listed) (marks : List Bool) : Type 0 where
  pub kept : List (List ℕ)
  pub count : length kept ≡ length task.variables
  pub are : AreKept task (kept_in kept)
  pub shown_is : shown ≡ left kept task
  pub marks_are : marks ≡ map (is_busy (chosen shown)) task.operators
