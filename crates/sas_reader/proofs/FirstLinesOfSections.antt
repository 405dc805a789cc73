-- What is read of the first lines of a section doesn't rest on the lines after them.
use Rattle.std.proofs.Common.{ℕ, Bool, List, [], length}
use Rattle.std.specs.Prelude.{codes}
use Rattle.sas_task.specs.declared.parts.Pair.{Pair}
use Rattle.sas_task.specs.declared.parts.Variable.{Variable}
use Rattle.sas_task.specs.declared.parts.Rule.{Rule}
use Rattle.sas_task.specs.Task.{Task}
use Rattle.sas_reader.specs.Contexts.{so_far}
use Rattle.sas_reader.specs.Forms.{◌>>◌, fixed}
use Rattle.sas_reader.specs.Numbers.{number}
use Rattle.sas_reader.proofs.FirstLines.{IsLocal, Begins, begins_then, then_local, next_local, given_local, passing_local, next_line_local, fixed_local, fixed_begins, number_line_local, at_least_local, number_or_none_line_local, number_local, number_or_none_local, line_local, listed_local}
use Rattle.sas_reader.specs.Pairs.{value, pair, condition, fact, effect_conditions, conditions}
use Rattle.sas_reader.specs.Sections.{version, metric, variable_name, fact_name, variable, variables, group, groups, state_value, state, goal}
use Rattle.sas_reader.specs.Operators.{Told, name, required_value, effect, cost, operator, operators}
use Rattle.sas_reader.specs.Rules.{change, rule, rules}

-- ---- pairs

value_local : (task : Task) (var : ℕ) → IsLocal (value task var)
unfolding value
value_local task var = then_local _ _ number_local (λ val. passing_local _ _)

pair_local : (task : Task) → IsLocal (pair task)
unfolding pair
pair_local task = then_local _ _ number_local (λ var. then_local _ _ (value_local task var) (λ val. given_local _))

condition_local : (task : Task) (before : List Pair) → IsLocal (condition task before)
unfolding condition
condition_local task before = then_local _ _ (pair_local task) (λ p. passing_local _ _)

fact_local : (task : Task) (before : List Pair) → IsLocal (fact task before)
unfolding fact
fact_local task before = then_local _ _ (pair_local task) (λ p. passing_local _ _)

effect_conditions_local : (task : Task) → IsLocal (effect_conditions task)
unfolding effect_conditions
effect_conditions_local task = then_local _ _ number_local (λ count. listed_local _ (condition_local task) count [])

conditions_local : (task : Task) → IsLocal (conditions task)
unfolding conditions
conditions_local task = then_local _ _ number_line_local (λ count. listed_local _ (λ before. line_local _ (condition_local task before)) count [])

-- ---- the version and the metric

pub version_begins : Begins version
unfolding version
version_begins = begins_then (fixed (codes "begin_version") >> fixed (codes "3")) (λ _. fixed (codes "end_version")) (begins_then (fixed (codes "begin_version")) (λ _. fixed (codes "3")) (fixed_begins _) (λ _. (fixed_local _).advances)) (λ _. (fixed_local _).advances)

pub version_local : IsLocal version
unfolding version
version_local = next_local _ _ (next_local _ _ (fixed_local _) (fixed_local _)) (fixed_local _)

pub metric_local : IsLocal metric
unfolding metric
metric_local = then_local _ _ (next_local _ _ (fixed_local _) next_line_local) (λ flag. then_local _ _ (passing_local _ _) (λ metric. next_local _ _ (fixed_local _) (given_local _)))

-- ---- variables, mutex groups, the state and the goal

fact_name_local : IsLocal fact_name
unfolding fact_name
fact_name_local = then_local _ _ next_line_local (λ name. passing_local _ _)

variable_local : (number : ℕ) → IsLocal (variable number)
unfolding variable variable_name
variable_local number =
    then_local _ _ (next_local _ _ (next_local _ _ (fixed_local _) (fixed_local _)) number_or_none_line_local)
    (λ layer. then_local _ _ (at_least_local 1) (λ range. then_local _ _ (listed_local _ (λ before. fact_name_local) range []) (λ facts. next_local _ _ (fixed_local _) (given_local _))))

pub variables_local : IsLocal variables
unfolding variables
variables_local = then_local _ _ number_line_local (λ count. listed_local _ (λ before. variable_local (length before)) count [])

group_local : (task : Task) → IsLocal (group task)
unfolding group
group_local task =
    then_local _ _ (next_local _ _ (fixed_local _) (at_least_local 2))
    (λ count. then_local _ _ (listed_local _ (λ before. line_local _ (fact_local task before)) count []) (λ facts. next_local _ _ (fixed_local _) (given_local _)))

pub groups_local : (task : Task) → IsLocal (groups task)
unfolding groups
groups_local task = then_local _ _ number_line_local (λ count. listed_local _ (λ before. group_local task) count [])

state_value_local : (task : Task) (var : ℕ) → IsLocal (state_value task var)
unfolding state_value
state_value_local task var = then_local _ _ number_line_local (λ val. passing_local _ _)

pub state_local : (task : Task) → IsLocal (state task)
unfolding state
state_local task =
    then_local _ _ (next_local _ _ (fixed_local _) (listed_local _ (λ before. state_value_local task (length before)) (length task.variables) []))
    (λ values. next_local _ _ (fixed_local _) (given_local _))

pub goal_local : (task : Task) → IsLocal (goal task)
unfolding goal
goal_local task = then_local _ _ (next_local _ _ (fixed_local _) (conditions_local task)) (λ pairs. next_local _ _ (fixed_local _) (given_local _))

-- ---- operators

name_local : IsLocal name
unfolding name
name_local = then_local _ _ next_line_local (λ written. passing_local _ _)

required_value_local : (task : Task) (var : ℕ) → IsLocal (required_value task var)
unfolding required_value
required_value_local task var = then_local _ _ number_or_none_local (λ required. passing_local _ _)

effect_local : (task : Task) (prevail : List Pair) (earlier : List Told) → IsLocal (effect task prevail earlier)
unfolding effect
effect_local task prevail earlier =
    then_local _ _ (effect_conditions_local task)
    (λ pairs. then_local _ _ number_local (λ var. then_local _ _ (required_value_local task var) (λ required. then_local _ _ (value_local task var) (λ after. passing_local _ _))))

cost_local : (metric : Bool) → IsLocal (cost metric)
unfolding cost
cost_local metric = then_local _ _ number_line_local (λ cost. passing_local _ _)

operator_local : (metric : Bool) (task : Task) → IsLocal (operator metric task)
unfolding operator
operator_local metric task =
    then_local _ _ (next_local _ _ (fixed_local _) name_local)
    (λ name. then_local _ _ (conditions_local task)
    (λ prevail. then_local _ _ number_line_local
    (λ count. then_local _ _ (listed_local _ (λ earlier. line_local _ (effect_local task prevail earlier)) count [])
    (λ told. then_local _ _ (cost_local metric) (λ cost. next_local _ _ (fixed_local _) (given_local _))))))

pub operators_local : (metric : Bool) (task : Task) → IsLocal (operators metric task)
unfolding operators
operators_local metric task = then_local _ _ number_line_local (λ count. listed_local _ (λ before. operator_local metric task) count [])

-- ---- rules

change_local : (variables : List Variable) (state : List ℕ) (earlier : List Rule) (pairs : List Pair) → IsLocal (change variables state earlier pairs)
unfolding change
change_local variables state earlier pairs =
    then_local _ _ number_local (λ var. then_local _ _ number_local (λ before. then_local _ _ (value_local (so_far variables []) var) (λ after. passing_local _ _)))

rule_local : (variables : List Variable) (state : List ℕ) (earlier : List Rule) → IsLocal (rule variables state earlier)
unfolding rule
rule_local variables state earlier =
    then_local _ _ (next_local _ _ (fixed_local _) (conditions_local (so_far variables [])))
    (λ pairs. then_local _ _ (line_local _ (change_local variables state earlier pairs)) (λ r. next_local _ _ (fixed_local _) (given_local _)))

pub rules_local : (variables : List Variable) (state : List ℕ) → IsLocal (rules variables state)
unfolding rules
rules_local variables state = then_local _ _ number_line_local (λ count. listed_local _ (rule_local variables state) count [])
