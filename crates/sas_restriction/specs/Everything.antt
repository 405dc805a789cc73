-- A choice that leaves all values of all variables and all operators.
use Rattle.std.specs.Prelude.{ℕ, true, List, map, length, None}
use Rattle.std.specs.List.{range_with_len}
use Rattle.sas_task.specs.Task.{Task}
use Rattle.sas_restriction.specs.Choice.{Choice, variable_at}
use Rattle.sas_restriction.specs.Listed.{Listed}

-- all values of a variable, in order
abbrev pub all_values : Task → ℕ → List ℕ
all_values task var = range_with_len 0 (length (variable_at task var).facts)

-- these variables with all values
abbrev pub everything_of : Task → List ℕ → Listed
everything_of task vars = record { vars = vars; values = map (all_values task) (range_with_len 0 (length task.variables)); holder = None }

-- the choice of these variables, with all operators
abbrev pub everything : Task → List ℕ → Choice
everything task vars = record { vars = vars; values = all_values task; operators = λ o. true; holder = None }
