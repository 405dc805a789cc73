-- When a restriction may stand for its task. The condition speaks of the choice and of the old task alone.
use Rattle.std.specs.Prelude.{◌≡◌, ◌↔◌, ℕ, ◌<◌, ◌≤◌, ◌⊎◌, List, length, Some, None, Contains, IsTrue, slice_index}
use Rattle.sas_task.specs.declared.parts.Pair.{Pair}
use Rattle.sas_task.specs.declared.parts.Effect.{Effect}
use Rattle.sas_task.specs.declared.parts.Operator.{Operator}
use Rattle.sas_task.specs.declared.parts.Rule.{Rule}
use Rattle.sas_task.specs.Task.{Task}
use Rattle.sas_task.specs.Values.{values}
use Rattle.sas_task.specs.Solution.{IsApplicable, Fires, Step, IsReachable, MeetsGoal}
use Rattle.sas_restriction.specs.Choice.{Choice, is_shown, effect_stays, is_busy, operator_stays, rule_stays}

-- what the variable has is told: it is shown, or at most one value of it is left
abbrev pub IsTold : Choice → ℕ → Type 0
IsTold choice var = IsTrue (is_shown choice var) ⊎ (length (choice.values var) ≤ 1)

-- all that the conditions speak of is told
abbrev pub AreTold : Choice → List Pair → Type 0
AreTold choice pairs = (p : Pair) → Contains pairs p → IsTold choice p.var

-- has: in each reachable state the values are among those that are left
-- sets: so is what an applicable operator that stays sets
-- operators, effects, rules: what they need is told, if they stay
-- goal: the goal is told, if no holder holds it
-- held: in each reachable state the goal is met exactly where its holder, if there is one, says so
-- agree: an operator that stays gives a variable that isn't told no two values
-- each: an operator with an effect that stays is left, if it has a step
pub record MayStand (choice : Choice) (task : Task) : Type 0 where
  pub has : (state : List ℕ) → IsReachable task state → (var : ℕ) → var < length task.variables → Contains (choice.values var) (slice_index (values task state) var)
  pub sets : (state : List ℕ) → IsReachable task state → (o : Operator) → Contains task.operators o → IsTrue (operator_stays choice o) → IsApplicable task state o → (e : Effect) → Contains o.effects e → Fires task state e → Contains (choice.values e.var) e.after
  pub operators : (o : Operator) → Contains task.operators o → IsTrue (operator_stays choice o) → AreTold choice o.conditions
  pub effects : (o : Operator) → Contains task.operators o → IsTrue (operator_stays choice o) → (e : Effect) → Contains o.effects e → IsTrue (effect_stays choice e) → AreTold choice e.conditions
  pub rules : (r : Rule) → Contains task.rules r → IsTrue (rule_stays choice r) → AreTold choice r.conditions
  pub goal : choice.holder ≡ None → AreTold choice task.goal
  pub held : (start : ℕ) → choice.holder ≡ Some start → (state : List ℕ) → IsReachable task state → MeetsGoal task state ↔ (start ≡ 0)
  pub agree : (o : Operator) → Contains task.operators o → IsTrue (operator_stays choice o) → (a b : Effect) → Contains o.effects a → Contains o.effects b → a.var ≡ b.var → IsTold choice a.var ⊎ (a.after ≡ b.after)
  pub each : (state : List ℕ) → IsReachable task state → (o : Operator) (next : List ℕ) → Step task state o next → IsTrue (is_busy choice o) → IsTrue (choice.operators o)

-- each variable is told
abbrev pub TellsAll : Choice → Task → Type 0
TellsAll choice task = (var : ℕ) → var < length task.variables → IsTold choice var
