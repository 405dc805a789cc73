-- The task with its variables ordered by how many operators have an effect on them.
use Rattle.std.specs.Prelude.{◌≡◌, ℕ, nat_eq, List, map, length, slice_index}
use Rattle.std.specs.List.{count_by, position_or_len, range_with_len}
use Rattle.std.specs.Ordering.{nat_cmp, then_cmp, on}
use Rattle.std.specs.declared.cmp.Ordering.{Ordering}
use Rattle.sas_task.specs.declared.parts.Pair.{Pair}
use Rattle.sas_task.specs.declared.parts.Group.{Group}
use Rattle.sas_task.specs.declared.parts.Effect.{Effect}
use Rattle.sas_task.specs.declared.parts.Operator.{Operator}
use Rattle.sas_task.specs.declared.parts.Rule.{Rule}
use Rattle.sas_task.specs.Task.{Task}
use Rattle.sas_task.specs.Effects.{changes}
use Rattle.sas_task.specs.Orders.{pair_cmp, group_cmp, effect_cmp, operator_cmp, rule_cmp}
use Rattle.sas_task.specs.InOrder.{in_order, sorted}
use Rattle.sas_restriction.specs.Choice.{variable_at}

-- how many of the operators change the variable; an operator with several effects on it counts once
abbrev pub changing_operators : List Operator → ℕ → ℕ
changing_operators operators var = count_by (λ o. changes o var) operators

-- variables that fewer operators change come first, and of several that as many change the one with the lower number
abbrev pub variable_cmp : Task → ℕ → ℕ → Ordering
variable_cmp task = then_cmp (on (changing_operators task.operators) nat_cmp) nat_cmp

-- all variables by their numbers, in this order
abbrev pub variable_order : Task → List ℕ
variable_order task = in_order (variable_cmp task) (range_with_len 0 (length task.variables))

-- Everywhere below `order` has all variables by their old numbers, and a variable's new number is its place there.
abbrev pub place_in : List ℕ → ℕ → ℕ
place_in order var = position_or_len (nat_eq var) order

abbrev pub renumbered_pair : List ℕ → Pair → Pair
renumbered_pair order p = record { var = place_in order p.var; val = p.val }

abbrev pub renumbered_pairs : List ℕ → List Pair → List Pair
renumbered_pairs order pairs = sorted pair_cmp (map (renumbered_pair order) pairs)

abbrev pub renumbered_group : List ℕ → Group → Group
renumbered_group order g = record { facts = renumbered_pairs order g.facts }

abbrev pub renumbered_effect : List ℕ → Effect → Effect
renumbered_effect order e = record { conditions = renumbered_pairs order e.conditions; var = place_in order e.var; after = e.after }

abbrev pub renumbered_operator : List ℕ → Operator → Operator
renumbered_operator order o =
    record {
      name = o.name;
      conditions = renumbered_pairs order o.conditions;
      effects = in_order effect_cmp (map (renumbered_effect order) o.effects);
      cost = o.cost;
    }

abbrev pub renumbered_rule : List ℕ → Rule → Rule
renumbered_rule order r = record { conditions = renumbered_pairs order r.conditions; var = place_in order r.var; before = r.before; after = r.after }

-- the task with its variables in this order, and all its lists in order again
abbrev pub renumbered : List ℕ → Task → Task
renumbered order task =
    record {
      metric = task.metric;
      variables = map (variable_at task) order;
      groups = in_order group_cmp (map (renumbered_group order) task.groups);
      state = map (λ var. slice_index task.state var) order;
      goal = renumbered_pairs order task.goal;
      operators = in_order operator_cmp (map (renumbered_operator order) task.operators);
      rules = in_order rule_cmp (map (renumbered_rule order) task.rules);
    }

-- the new task is the old one with its variables ordered by how many operators have an effect on them
abbrev pub IsReordered : Task → Task → Type 0
IsReordered old new = new ≡ renumbered (variable_order old) old
