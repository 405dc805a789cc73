-- Tasks that differ only in the order of their parts, and in how often a part stands there.
use Rattle.std.specs.Prelude.{◌≡◌, List, Contains}
use Rattle.lists.specs.SameMembers.{SameMembers}
use Rattle.sas_task.specs.declared.parts.Operator.{Operator}
use Rattle.sas_task.specs.declared.parts.Rule.{Rule}
use Rattle.sas_task.specs.Task.{Task}

-- the operators are the same, but for the order of their effects
pub record IsAlike (a b : Operator) : Type 0 where
  pub name : a.name ≡ b.name
  pub conditions : a.conditions ≡ b.conditions
  pub effects : SameMembers a.effects b.effects
  pub cost : a.cost ≡ b.cost

-- some operator of the list is the same, but for the order of its effects
pub record HasAlike (operators : List Operator) (a : Operator) : Type 0 where
  pub operator : Operator
  pub listed : Contains operators operator
  pub alike : IsAlike a operator

-- the tasks are the same, but for the order of groups, of operators, of their effects and of rules
pub record AreAlike (a b : Task) : Type 0 where
  pub metric : a.metric ≡ b.metric
  pub variables : a.variables ≡ b.variables
  pub groups : SameMembers a.groups b.groups
  pub state : a.state ≡ b.state
  pub goal : a.goal ≡ b.goal
  pub operators : (o : Operator) → Contains a.operators o → HasAlike b.operators o
  pub back : (o : Operator) → Contains b.operators o → HasAlike a.operators o
  pub rules : SameMembers a.rules b.rules

-- rules of one variable have one default value and one new value
abbrev pub RulesAgree : Task → Type 0
RulesAgree task = (a b : Rule) → Contains task.rules a → Contains task.rules b → a.var ≡ b.var → (a.before ≡ b.before) × (a.after ≡ b.after)
