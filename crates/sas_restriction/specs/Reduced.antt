-- A task without what can't influence its goal.
use Rattle.std.specs.Prelude.{◌≡◌, ◌≢◌, ℕ, Bool, nat_eq, nat_lt, List, [], map, filter, length, slice_index}
use Rattle.std.specs.List.{list_any}
use Rattle.lists.specs.Members.{is_among}
use Rattle.sas_task.specs.declared.parts.Group.{Group}
use Rattle.sas_task.specs.declared.parts.Operator.{Operator}
use Rattle.sas_task.specs.Task.{Task}
use Rattle.sas_task.specs.Effects.{changes}
use Rattle.sas_task.specs.Orders.{group_cmp, operator_cmp, rule_cmp}
use Rattle.sas_task.specs.InOrder.{in_order, sorted}
use Rattle.sas_restriction.specs.Choice.{variable_at}
use Rattle.sas_restriction.specs.Relevant.{AreRelevant}
use Rattle.sas_restriction.specs.Reordered.{renumbered_pairs, renumbered_group, renumbered_operator, renumbered_rule}

-- Everywhere below `vars` has some variables by their old numbers, in order, and a variable's new number is its place there.

-- a group's facts on these variables
abbrev pub reduced_group : List ℕ → Group → Group
reduced_group vars g = renumbered_group vars (record { facts = filter (λ p. is_among nat_eq vars p.var) g.facts })

-- whether the operator changes one of these variables
abbrev pub changes_some : List ℕ → Operator → Bool
changes_some vars o = list_any (changes o) vars

-- an operator with its effects on these variables
abbrev pub reduced_operator : List ℕ → Operator → Operator
reduced_operator vars o =
    renumbered_operator vars (record { name = o.name; conditions = o.conditions; effects = filter (λ e. is_among nat_eq vars e.var) o.effects; cost = o.cost })

-- the task with these variables alone: the groups of at least two facts on them, the operators that change one of them, each group and each operator once, and their rules, all in order again
abbrev pub reduced : List ℕ → Task → Task
reduced vars task =
    record {
      metric = task.metric;
      variables = map (variable_at task) vars;
      groups = sorted group_cmp (filter (λ g. nat_lt 1 (length g.facts)) (map (reduced_group vars) task.groups));
      state = map (λ var. slice_index task.state var) vars;
      goal = renumbered_pairs vars task.goal;
      operators = sorted operator_cmp (map (reduced_operator vars) (filter (changes_some vars) task.operators));
      rules = in_order rule_cmp (map (renumbered_rule vars) (filter (λ r. is_among nat_eq vars r.var) task.rules));
    }

-- the new task is the old one with its relevant variables alone
pub record HasRelevantAlone (old new : Task) : Type 0 where
  pub vars : List ℕ
  pub are : AreRelevant old vars
  pub same : new ≡ reduced vars old

-- the new task is the old one without what can't influence its goal; with an empty goal it is the old one itself
pub record IsReduced (old new : Task) : Type 0 where
  pub empty_goal : old.goal ≡ [] → new ≡ old
  pub some_goal : old.goal ≢ [] → HasRelevantAlone old new
