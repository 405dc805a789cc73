-- The restriction of a task to a choice: up to the order and the number of equal effects, operators, groups and rules, and with these in order.
use Rattle.std.specs.Prelude.{◌≡◌, ◌≤◌, nat_lt, List, [], ◌∷◌, ◌++◌, map, filter, length, All, Contains, IsTrue, slice_index}
use Rattle.std.specs.Option.{option_map_or}
use Rattle.sas_task.specs.declared.parts.Group.{Group}
use Rattle.sas_task.specs.declared.parts.Effect.{Effect}
use Rattle.sas_task.specs.declared.parts.Operator.{Operator}
use Rattle.sas_task.specs.declared.parts.Rule.{Rule}
use Rattle.sas_task.specs.Task.{Task}
use Rattle.sas_task.specs.Orders.{group_cmp, effect_cmp, operator_cmp, rule_cmp}
use Rattle.sas_task.specs.InOrder.{arranged}
use Rattle.sas_restriction.specs.declared.chosen.Once.{Once}
use Rattle.sas_restriction.specs.Choice.{Choice, new_val, new_pairs, new_variable, new_group, effect_stays, new_effect, operator_stays, rule_stays, new_rule, holder_variable}

-- the new operator is what is left of the old one: it has its name and its cost, its conditions on what is shown, and the effects that stay
pub record IsNewOperator (choice : Choice) (old new : Operator) : Type 0 where
  pub same_name : new.name ≡ old.name
  pub same_cost : new.cost ≡ old.cost
  pub conditions : new.conditions ≡ new_pairs choice old.conditions
  pub each_effect : (e : Effect) → Contains old.effects e → IsTrue (effect_stays choice e) → Contains new.effects (new_effect choice e)
  pub no_other : (e' : Effect) → Contains new.effects e' → (e : Effect) × Contains old.effects e × IsTrue (effect_stays choice e) × (new_effect choice e ≡ e')

-- the new task shows the old one's chosen variables with their chosen values. Each of its groups is what is left of an old one; its operators and its rules are what is left of those that stay, of each of them
pub record Restricts (choice : Choice) (old new : Task) : Type 0 where
  pub metric : new.metric ≡ old.metric
  pub variables : new.variables ≡ map (new_variable choice old) choice.vars ++ option_map_or (λ start. holder_variable ∷ []) choice.holder []
  pub state : new.state ≡ map (λ var. new_val choice var (slice_index old.state var)) choice.vars ++ option_map_or (λ start. start ∷ []) choice.holder []
  pub goal : new.goal ≡ option_map_or (λ start. record { var = length choice.vars; val = 0 } ∷ []) choice.holder (new_pairs choice old.goal)
  pub groups : (g' : Group) → Contains new.groups g' → (g : Group) × Contains old.groups g × (new_group choice g ≡ g')
  pub two_facts : All (λ g. 2 ≤ length g.facts) new.groups
  pub operators : (o' : Operator) → Contains new.operators o' → (o : Operator) × Contains old.operators o × IsTrue (operator_stays choice o) × IsNewOperator choice o o'
  pub each_operator : (o : Operator) → Contains old.operators o → IsTrue (operator_stays choice o) → (o' : Operator) × Contains new.operators o' × IsNewOperator choice o o'
  pub rules : (r' : Rule) → Contains new.rules r' → (r : Rule) × Contains old.rules r × IsTrue (rule_stays choice r) × (new_rule choice r ≡ r')
  pub each_rule : (r : Rule) → Contains old.rules r → IsTrue (rule_stays choice r) → Contains new.rules (new_rule choice r)

-- what is left of an operator, with its effects in order
abbrev pub new_operator : Once → Choice → Operator → Operator
new_operator once choice o =
    record {
      name = o.name;
      conditions = new_pairs choice o.conditions;
      effects = arranged once.effects effect_cmp (map (new_effect choice) (filter (effect_stays choice) o.effects));
      cost = o.cost;
    }

-- what is left of the groups that have two facts left
abbrev pub new_groups : Choice → Task → List Group
new_groups choice task = filter (λ g. nat_lt 1 (length g.facts)) (map (new_group choice) task.groups)

abbrev pub new_operators : Once → Choice → Task → List Operator
new_operators once choice task = map (new_operator once choice) (filter (operator_stays choice) task.operators)

abbrev pub new_rules : Choice → Task → List Rule
new_rules choice task = map (new_rule choice) (filter (rule_stays choice) task.rules)

-- the restriction with all lists in order
abbrev pub restriction : Once → Choice → Task → Task
restriction once choice task =
    record {
      metric = task.metric;
      variables = map (new_variable choice task) choice.vars ++ option_map_or (λ start. holder_variable ∷ []) choice.holder [];
      groups = arranged once.groups group_cmp (new_groups choice task);
      state = map (λ var. new_val choice var (slice_index task.state var)) choice.vars ++ option_map_or (λ start. start ∷ []) choice.holder [];
      goal = option_map_or (λ start. record { var = length choice.vars; val = 0 } ∷ []) choice.holder (new_pairs choice task.goal);
      operators = arranged once.operators operator_cmp (new_operators once choice task);
      rules = arranged once.rules rule_cmp (new_rules choice task);
    }
