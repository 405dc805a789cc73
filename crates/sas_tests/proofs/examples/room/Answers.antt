use Rattle.std.proofs.Common.{◌≡◌, ℕ, true, List, sym, ◌∙◌, subst, refl}
use Rattle.sas_task.specs.declared.parts.Pair.{Pair}
use Rattle.sas_task.specs.declared.parts.Variable.{Variable}
use Rattle.sas_task.specs.declared.parts.Group.{Group}
use Rattle.sas_task.specs.declared.parts.Operator.{Operator}
use Rattle.sas_task.specs.declared.parts.Rule.{Rule}
use Rattle.sas_task.specs.Task.{Task}
use Rattle.sas_task.specs.Valid.{IsValid}
use Rattle.sas_task.specs.Examples.{room}
use Rattle.sas_task.proofs.Checks.{valid_from_test}
use Rattle.sas_tests.proofs.examples.room.Goals as goal

-- parts that are the room's make the room
room_of : (vs : List Variable) (gs : List Group) (s : List ℕ) (g : List Pair) (os : List Operator) (rs : List Rule) → vs ≡ room.variables → gs ≡ room.groups → s ≡ room.state → g ≡ room.goal → os ≡ room.operators → rs ≡ room.rules → ◌≡◌ {A = Task} (record { metric = true; variables = vs; groups = gs; state = s; goal = g; operators = os; rules = rs }) room
room_of vs gs s g os rs e1 e2 e3 e4 e5 e6 =
    λ i. record { metric = true; variables = e1 i; groups = e2 i; state = e3 i; goal = e4 i; operators = e5 i; rules = e6 i }

pub from_parts-requires : goal.from_parts-requires
from_parts-requires c =
    subst IsValid (sym (room_of _ _ _ _ _ _ c.in_ok-variables.ensures c.in_ok-groups.ensures c.in_ok-state.ensures c.in_ok-goal.ensures c.in_ok-operators.ensures c.in_ok-rules.ensures)) (valid_from_test room refl)

pub returns : goal.returns
returns c = c.from_parts.ensures ∙ room_of _ _ _ _ _ _ c.in_ok-variables.ensures c.in_ok-groups.ensures c.in_ok-state.ensures c.in_ok-goal.ensures c.in_ok-operators.ensures c.in_ok-rules.ensures
