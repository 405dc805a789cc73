-- The parts of a valid task are valid.
use Rattle.std.proofs.Common.{◌≡◌, ℕ, Option, Some, None, refl}
use Rattle.std.specs.Prelude.{IsNone}
use Rattle.std.specs.List.{Contains}
use Rattle.std.proofs.lemmas.List.Elements.{All-contains}
use Rattle.sas_task.specs.declared.parts.Effect.{Effect}
use Rattle.sas_task.specs.declared.parts.Operator.{Operator}
use Rattle.sas_task.specs.declared.parts.Rule.{Rule}
use Rattle.sas_task.specs.Task.{Task}
use Rattle.sas_task.specs.Valid.{IsValid, IsValidEffect, IsValidOperator, IsValidRule}

module _ (task : Task) (valid : IsValid task) where
  pub operator_law : (o : Operator) → Contains task.operators o → IsValidOperator task o
  operator_law o in' = All-contains (IsValidOperator task) task.operators o valid.operators in'

  pub effect_law : (o : Operator) → Contains task.operators o → (e : Effect) → Contains o.effects e → IsValidEffect task e
  effect_law o in-o e in' = All-contains (IsValidEffect task) o.effects e (operator_law o in-o).effects in'

  pub rule_law : (r : Rule) → Contains task.rules r → IsValidRule task r
  rule_law r in' = All-contains (IsValidRule task) task.rules r valid.rules in'

-- what has no layer has none
pub none_of : (o : Option ℕ) → IsNone o → o ≡ None
none_of None is = refl
none_of (Some x) is = absurd cc
