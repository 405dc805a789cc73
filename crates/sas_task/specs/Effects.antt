-- What effects change, and what they make true.
use Rattle.std.specs.Prelude.{ℕ, Bool, ◌==◌}
use Rattle.std.specs.List.{list_any}
use Rattle.sas_task.specs.declared.parts.Pair.{Pair}
use Rattle.sas_task.specs.declared.parts.Effect.{Effect}
use Rattle.sas_task.specs.declared.parts.Operator.{Operator}

-- whether the operator changes the variable: some effect of it is on the variable
abbrev pub changes : Operator → ℕ → Bool
changes o var = list_any (λ e. e.var == var) o.effects

-- what the effect makes true
abbrev pub fact_of : Effect → Pair
fact_of e = record { var = e.var; val = e.after }
