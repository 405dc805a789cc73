-- Words of the code: a table of the values that effects give.
use Rattle.std.specs.Prelude.{◌≡◌, ℕ, Bool, ◌&&◌, nat_eq, List}
use Rattle.std.specs.List.{list_any}
use Rattle.sas_task.specs.declared.parts.Pair.{Pair}
use Rattle.sas_task.specs.declared.parts.Effect.{Effect}
use Rattle.fdr_encoder.specs.Operators.{is_given}

abbrev pub is_same : ℕ × ℕ → ℕ × ℕ → Bool
is_same key other = nat_eq key.0 other.0 && nat_eq key.1 other.1

-- the keys are the variables of the effects with their new values
abbrev pub Know : List Effect → List (ℕ × ℕ) → Type 0
Know effects keys = (p : Pair) → list_any (is_same (p.var, p.val)) keys ≡ is_given effects p
