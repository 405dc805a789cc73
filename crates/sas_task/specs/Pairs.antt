-- Pairs of a variable and a value.
use Rattle.std.specs.Prelude.{ℕ}
use Rattle.sas_task.specs.declared.parts.Pair.{Pair}

abbrev pub pair : ℕ → ℕ → Pair
pair var val = record { var = var; val = val }
