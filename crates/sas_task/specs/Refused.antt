-- The room with one part changed, for what makes a task invalid.
use Rattle.std.specs.Prelude.{ℕ, Bool, true, List, [], ◌∷◌, ◌++◌, Option, Some, codes}
use Rattle.sas_task.specs.declared.parts.Pair.{Pair}
use Rattle.sas_task.specs.declared.parts.Variable.{Variable}
use Rattle.sas_task.specs.declared.parts.Operator.{Operator}
use Rattle.sas_task.specs.declared.parts.Rule.{Rule}
use Rattle.sas_task.specs.Task.{Task, of_parts}
use Rattle.sas_task.specs.Pairs.{pair}
use Rattle.sas_task.specs.Valid.{IsValid}
use Rattle.sas_task.specs.Examples.{room_variables, room_groups, room_operators, room_rules}

abbrev pub IsRefused : Task → Type 0
IsRefused task = IsValid task → ⊥

-- one more variable, with the value 0 at the start, and these rules
abbrev pub with_rules : Variable → List Rule → Task
with_rules variable rules = of_parts true (room_variables ++ variable ∷ []) room_groups (0 ∷ 1 ∷ 1 ∷ 1 ∷ 0 ∷ []) (pair 3 0 ∷ []) room_operators rules

abbrev pub with_variable : Option ℕ → List (List ℕ) → Task
with_variable layer facts = with_rules (record { layer = layer; facts = facts }) room_rules

abbrev pub with_group : List Pair → Task
with_group facts = of_parts true room_variables (record { facts = facts } ∷ []) (0 ∷ 1 ∷ 1 ∷ 1 ∷ []) (pair 3 0 ∷ []) room_operators room_rules

abbrev pub with_state : List ℕ → Task
with_state state = of_parts true room_variables room_groups state (pair 3 0 ∷ []) room_operators room_rules

abbrev pub with_goal : List Pair → Task
with_goal goal = of_parts true room_variables room_groups (0 ∷ 1 ∷ 1 ∷ 1 ∷ []) goal room_operators room_rules

abbrev pub with_operator : Bool → Operator → Task
with_operator metric operator = of_parts metric room_variables room_groups (0 ∷ 1 ∷ 1 ∷ 1 ∷ []) (pair 3 0 ∷ []) (operator ∷ []) room_rules

abbrev pub with_conditions : List Pair → Task
with_conditions conditions = with_operator true (record { name = codes "act"; conditions = conditions; effects = []; cost = 1 })

abbrev pub with_effect : List Pair → ℕ → ℕ → Task
with_effect conditions var after =
    with_operator true (record { name = codes "act"; conditions = []; effects = record { conditions = conditions; var = var; after = after } ∷ []; cost = 1 })

-- an operator of this name, at this cost
abbrev pub with_cost : Bool → List ℕ → ℕ → Task
with_cost metric name cost = with_operator metric (record { name = name; conditions = []; effects = []; cost = cost })

abbrev pub with_rule : List Pair → ℕ → ℕ → ℕ → Task
with_rule conditions var before after =
    of_parts true room_variables room_groups (0 ∷ 1 ∷ 1 ∷ 1 ∷ []) (pair 3 0 ∷ []) room_operators (record { conditions = conditions; var = var; before = before; after = after } ∷ [])

-- two rules for a third derived variable, which give it different values
abbrev pub torn : Task
torn =
    with_rules (record { layer = Some 2; facts = codes "Atom a()" ∷ codes "Atom b()" ∷ codes "Atom c()" ∷ [] })
    (record { conditions = []; var = 4; before = 0; after = 1 } ∷ record { conditions = []; var = 4; before = 0; after = 2 } ∷ [])
