-- What is left of a task: some of its variables, in any order, of each variable some of its values, and some of its operators.
use Rattle.std.specs.Prelude.{◌≡◌, ◌≢◌, ℕ, Bool, nat_eq, nat_lt, ◌&&◌, ◌<◌, List, [], ◌∷◌, map, filter, length, Option, None, All, AllPairs, Contains, IsTrue, IfSome, codes, slice_get, slice_index, slice_index_or}
use Rattle.std.specs.List.{list_all, list_any, position_or_len}
use Rattle.std.specs.List.Sorted.{IsStrictlyIncreasing}
use Rattle.std.specs.Option.{option_map_or}
use Rattle.lists.specs.Members.{is_among}
use Rattle.sas_task.specs.declared.parts.Pair.{Pair}
use Rattle.sas_task.specs.declared.parts.Variable.{Variable}
use Rattle.sas_task.specs.declared.parts.Group.{Group}
use Rattle.sas_task.specs.declared.parts.Effect.{Effect}
use Rattle.sas_task.specs.declared.parts.Operator.{Operator}
use Rattle.sas_task.specs.declared.parts.Rule.{Rule}
use Rattle.sas_task.specs.Task.{Task}
use Rattle.sas_task.specs.Orders.{pair_cmp}
use Rattle.sas_task.specs.Valid.{IsValue}
use Rattle.sas_task.specs.InOrder.{sorted}

-- vars: the variables that are shown, each by its old number, in their new order
-- values: of each variable, shown or not, the values that are left, in order
-- operators: which operators are left, if they need no other values
-- holder: the value of one more variable behind the others, which holds the goal, if there is one
pub record Choice : Type 0 where
  pub vars : List ℕ
  pub values : ℕ → List ℕ
  pub operators : Operator → Bool
  pub holder : Option ℕ

-- whether the variable is shown
abbrev pub is_shown : Choice → ℕ → Bool
is_shown choice var = is_among nat_eq choice.vars var

-- whether the value of the variable is left
abbrev pub is_left : Choice → ℕ → ℕ → Bool
is_left choice var val = is_among nat_eq (choice.values var) val

-- whether each pair's value is left
abbrev pub all_left : Choice → List Pair → Bool
all_left choice pairs = list_all (λ p. is_left choice p.var p.val) pairs

-- a variable's new number: its place among those that are shown
abbrev pub new_var : Choice → ℕ → ℕ
new_var choice var = position_or_len (nat_eq var) choice.vars

-- a value's new number: how many values of its variable are left before it
abbrev pub new_val : Choice → ℕ → ℕ → ℕ
new_val choice var val = length (filter (λ v. nat_lt v val) (choice.values var))

abbrev pub new_pair : Choice → Pair → Pair
new_pair choice p = record { var = new_var choice p.var; val = new_val choice p.var p.val }

-- conditions: those on variables that are shown, by variable
abbrev pub new_pairs : Choice → List Pair → List Pair
new_pairs choice pairs = sorted pair_cmp (map (new_pair choice) (filter (λ p. is_shown choice p.var) pairs))

-- the variable with this number
abbrev pub variable_at : Task → ℕ → Variable
variable_at task var = option_map_or (λ v. v) (slice_get task.variables var) (record { layer = None; facts = [] })

-- a variable with the facts of the values that are left
abbrev pub new_variable : Choice → Task → ℕ → Variable
new_variable choice task var =
    record { layer = (variable_at task var).layer; facts = map (λ val. slice_index_or (variable_at task var).facts val []) (choice.values var) }

-- whether a fact stays in its group: its value is left, and its variable is shown
abbrev pub fact_stays : Choice → Pair → Bool
fact_stays choice p = is_left choice p.var p.val && is_shown choice p.var

abbrev pub new_group : Choice → Group → Group
new_group choice g = record { facts = sorted pair_cmp (map (new_pair choice) (filter (fact_stays choice) g.facts)) }

-- whether an effect stays: the values that it needs and its new value are left, and its variable is shown
abbrev pub effect_stays : Choice → Effect → Bool
effect_stays choice e = all_left choice e.conditions && (is_left choice e.var e.after && is_shown choice e.var)

abbrev pub new_effect : Choice → Effect → Effect
new_effect choice e = record { conditions = new_pairs choice e.conditions; var = new_var choice e.var; after = new_val choice e.var e.after }

-- whether some effect of the operator stays
abbrev pub is_busy : Choice → Operator → Bool
is_busy choice o = list_any (effect_stays choice) o.effects

-- whether an operator stays: the values that it needs are left, and so is the operator
abbrev pub operator_stays : Choice → Operator → Bool
operator_stays choice o = all_left choice o.conditions && choice.operators o

-- the choice without the operators none of whose effects stays
abbrev pub busy_alone : Choice → Choice
busy_alone choice = record { vars = choice.vars; values = choice.values; operators = λ o. choice.operators o && is_busy choice o; holder = choice.holder }

-- whether a rule stays: the values that it needs are left, and its variable is shown
abbrev pub rule_stays : Choice → Rule → Bool
rule_stays choice r = all_left choice r.conditions && is_shown choice r.var

abbrev pub new_rule : Choice → Rule → Rule
new_rule choice r =
    record {
      conditions = new_pairs choice r.conditions;
      var = new_var choice r.var;
      before = new_val choice r.var r.before;
      after = new_val choice r.var r.after;
    }

-- the holder of a goal: a variable that no operator changes. Its value 0 is the goal
abbrev pub holder_variable : Variable
holder_variable = record { layer = None; facts = codes "Atom goal@holder()" ∷ codes "NegatedAtom goal@holder()" ∷ [] }

-- the choice is one for the task: its variables are the task's, each at most once, its values are values of their variables, with all initial ones and all that the rules left give, and a goal that needs another value has a holder
pub record IsChoice (choice : Choice) (task : Task) : Type 0 where
  pub inside : All (λ v. v < length task.variables) choice.vars
  pub once : AllPairs (λ v w. v ≢ w) choice.vars
  pub in_order : (var : ℕ) → var < length task.variables → IsStrictlyIncreasing (choice.values var)
  pub are_values : (var val : ℕ) → var < length task.variables → Contains (choice.values var) val → IsValue task var val
  pub initial : (var : ℕ) → var < length task.variables → Contains (choice.values var) (slice_index task.state var)
  pub by_rules : (r : Rule) → Contains task.rules r → IsTrue (rule_stays choice r) → Contains (choice.values r.var) r.after
  pub two_valued : IfSome choice.holder (λ start. start < 2)
  pub goal_left : choice.holder ≡ None → IsTrue (all_left choice task.goal)
