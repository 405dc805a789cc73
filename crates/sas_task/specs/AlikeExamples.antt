-- The room with its parts in another order, and the room with other parts.
use Rattle.std.specs.Prelude.{true, ℕ, List, [], ◌∷◌, codes}
use Rattle.sas_task.specs.declared.parts.Operator.{Operator}
use Rattle.sas_task.specs.declared.parts.Rule.{Rule}
use Rattle.sas_task.specs.Task.{Task, of_parts}
use Rattle.sas_task.specs.Pairs.{pair}
use Rattle.sas_task.specs.Examples.{room_variables, room_groups, enter, press}

abbrev pub of_operators : List Operator → List Rule → Task
of_operators operators rules = of_parts true room_variables room_groups (0 ∷ 1 ∷ 1 ∷ 1 ∷ []) (pair 3 0 ∷ []) operators rules

-- the operator of the room that has two effects, with these in the other order, at this cost
abbrev pub toggle_at : ℕ → Operator
toggle_at cost =
    record {
      name = codes "toggle";
      conditions = [];
      effects = record { conditions = pair 1 1 ∷ []; var = 1; after = 0 } ∷ record { conditions = pair 0 1 ∷ pair 2 0 ∷ []; var = 1; after = 1 } ∷ [];
      cost = cost;
    }

abbrev pub rules_turned : List Rule
rules_turned =
    record { conditions = pair 2 0 ∷ []; var = 3; before = 1; after = 0 }
    ∷ record { conditions = pair 0 1 ∷ pair 1 0 ∷ []; var = 2; before = 1; after = 0 }
    ∷ []

-- the operators and rules in another order, one operator twice
abbrev pub room_turned : Task
room_turned = of_operators (toggle_at 10 ∷ press ∷ enter ∷ press ∷ []) rules_turned
