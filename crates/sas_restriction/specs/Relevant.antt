-- The variables of a task that can influence its goal.
use Rattle.std.specs.Prelude.{◌≡◌, ◌≢◌, ℕ, Bool, nat_eq, List, Contains, IsTrue}
use Rattle.std.specs.List.Sorted.{IsStrictlyIncreasing}
use Rattle.lists.specs.Members.{is_among}
use Rattle.sas_task.specs.declared.parts.Pair.{Pair}
use Rattle.sas_task.specs.declared.parts.Effect.{Effect}
use Rattle.sas_task.specs.declared.parts.Operator.{Operator}
use Rattle.sas_task.specs.declared.parts.Rule.{Rule}
use Rattle.sas_task.specs.Task.{Task}

-- A set of variables has all that can influence the goal, where it has
-- goal: the variables of the goal
-- rules: those of the conditions of a rule whose variable is in it
-- operators: those of the conditions of an operator that has an effect on a variable in it
-- effects: those of the conditions of an effect on a variable in it
-- disagreements: and each to which such an operator has two effects with different new values, so that it is seen where the operator disagrees
pub record HasInfluences (task : Task) (has : ℕ → Bool) : Type 0 where
  pub goal : (p : Pair) → Contains task.goal p → IsTrue (has p.var)
  pub rules : (r : Rule) (p : Pair) → Contains task.rules r → IsTrue (has r.var) → Contains r.conditions p → IsTrue (has p.var)
  pub operators : (o : Operator) (e : Effect) (p : Pair) → Contains task.operators o → Contains o.effects e → IsTrue (has e.var) → Contains o.conditions p → IsTrue (has p.var)
  pub effects : (o : Operator) (e : Effect) (p : Pair) → Contains task.operators o → Contains o.effects e → IsTrue (has e.var) → Contains e.conditions p → IsTrue (has p.var)
  pub disagreements : (o : Operator) (e a b : Effect) → Contains task.operators o → Contains o.effects e → IsTrue (has e.var) → Contains o.effects a → Contains o.effects b → a.var ≡ b.var → a.after ≢ b.after → IsTrue (has a.var)

-- these are the relevant variables, in order: the least such set
pub record AreRelevant (task : Task) (vars : List ℕ) : Type 0 where
  pub sorted : IsStrictlyIncreasing vars
  pub closed : HasInfluences task (is_among nat_eq vars)
  pub least : (has : ℕ → Bool) → HasInfluences task has → (var : ℕ) → IsTrue (is_among nat_eq vars var) → IsTrue (has var)
