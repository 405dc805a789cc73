-- A task without what no pair of facts allows.
use Rattle.std.specs.Prelude.{◌≡◌, ℕ, Bool, true, false, ◌==◌, ◌&&◌, ◌||◌, filter, length, None}
use Rattle.std.specs.List.{list_any, range_with_len}
use Rattle.sas_task.specs.Task.{Task}
use Rattle.sas_task.specs.Pairs.{pair}
use Rattle.sas_restriction.specs.Choice.{Choice}
use Rattle.sas_restriction.specs.Everything.{all_values}
use Rattle.sas_restriction.specs.declared.chosen.Once.{Once}
use Rattle.sas_restriction.specs.Restriction.{restriction}
use Rattle.pass_possible.specs.Possible.{is_plain, is_possible, Pairs, ArePossible}

-- whether the variable's value is possible or in the goal
abbrev pub is_wanted : Pairs → Task → ℕ → ℕ → Bool
is_wanted pairs task var val = pairs (pair var val) (pair var val) || list_any (λ p. (p.var == var) && (p.val == val)) task.goal

-- all variables with these values, and the possible operators
abbrev pub possible_alone : Pairs → Task → Choice
possible_alone pairs task =
    record {
      vars = range_with_len 0 (length task.variables);
      values = λ var. filter (is_wanted pairs task var) (all_values task var);
      operators = is_possible pairs;
      holder = None;
    }

-- groups that stand there twice go
abbrev pub groups_once : Once
groups_once = record { effects = false; operators = false; groups = true; rules = false }

-- what is left of the task
abbrev pub pruned : Pairs → Task → Task
pruned pairs task = restriction groups_once (possible_alone pairs task) task

-- the new task is the old one with its possible operators, and its possible values and those of the goal, alone
pub record HasPossibleAlone (old new : Task) : Type 0 where
  pub pairs : Pairs
  pub are : ArePossible old pairs
  pub same : new ≡ pruned pairs old

-- the new task is the old one without what no pair of facts allows; a task that isn't plain is the old one itself
pub record IsPruned (old new : Task) : Type 0 where
  pub plain : is_plain old ≡ true → HasPossibleAlone old new
  pub other : is_plain old ≡ false → new ≡ old
