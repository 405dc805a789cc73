-- The room with a lamp of `sas_task`, reordered by hand, and another room, reduced by hand.
use Rattle.std.specs.Prelude.{ℕ, true, false, List, [], ◌∷◌, Some, None, codes}
use Rattle.sas_task.specs.declared.parts.Variable.{Variable}
use Rattle.sas_task.specs.declared.parts.Operator.{Operator}
use Rattle.sas_task.specs.Task.{Task}
use Rattle.sas_task.specs.Pairs.{pair}

-- the room with its variables ordered by how many operators change them: who can see, who is safe, who is where, the lamp
abbrev pub room_reordered_variables : List Variable
room_reordered_variables =
    record { layer = Some 0; facts = codes "Atom seeing()" ∷ codes "NegatedAtom seeing()" ∷ [] }
    ∷ record { layer = Some 1; facts = codes "Atom safe()" ∷ codes "NegatedAtom safe()" ∷ [] }
    ∷ record { layer = None; facts = codes "Atom at(hall)" ∷ codes "Atom at(room)" ∷ [] }
    ∷ record { layer = None; facts = codes "Atom lit()" ∷ codes "NegatedAtom lit()" ∷ [] }
    ∷ []

abbrev pub room_reordered_operators : List Operator
room_reordered_operators =
    record { name = codes "enter room"; conditions = pair 2 0 ∷ []; effects = record { conditions = []; var = 2; after = 1 } ∷ []; cost = 3 }
    ∷ record { name = codes "press"; conditions = pair 2 1 ∷ pair 3 1 ∷ []; effects = record { conditions = []; var = 3; after = 0 } ∷ []; cost = 0 }
    ∷ record {
      name = codes "toggle";
      conditions = [];
      effects = record { conditions = pair 0 0 ∷ pair 2 1 ∷ []; var = 3; after = 1 } ∷ record { conditions = pair 3 1 ∷ []; var = 3; after = 0 } ∷ [];
      cost = 10;
    }
    ∷ []

abbrev pub room_reordered : Task
room_reordered =
    record {
      metric = true;
      variables = room_reordered_variables;
      groups = record { facts = pair 2 0 ∷ pair 2 1 ∷ [] } ∷ [];
      state = 1 ∷ 1 ∷ 0 ∷ 1 ∷ [];
      goal = pair 1 0 ∷ [];
      operators = room_reordered_operators;
      rules =
          record { conditions = pair 2 1 ∷ pair 3 0 ∷ []; var = 0; before = 1; after = 0 }
          ∷ record { conditions = pair 0 0 ∷ []; var = 1; before = 1; after = 0 }
          ∷ [];
    }

-- a room with a lamp and a bell: who is in the room while it is lit can see, and the lamp's switch may ring the bell, which can be heard. Two groups, two operators and two rules differ at most in the bell
abbrev pub belfry_variables : List Variable
belfry_variables =
    record { layer = None; facts = codes "Atom ringing()" ∷ codes "NegatedAtom ringing()" ∷ [] }
    ∷ record { layer = None; facts = codes "Atom at(hall)" ∷ codes "Atom at(room)" ∷ [] }
    ∷ record { layer = None; facts = codes "Atom lit()" ∷ codes "NegatedAtom lit()" ∷ [] }
    ∷ record { layer = Some 0; facts = codes "Atom heard()" ∷ codes "NegatedAtom heard()" ∷ [] }
    ∷ record { layer = Some 0; facts = codes "Atom seeing()" ∷ codes "NegatedAtom seeing()" ∷ [] }
    ∷ []

-- who is in the room presses the switch, which lights the lamp if it is off
abbrev pub press_with : ℕ → Operator
press_with bell =
    record {
      name = codes "press";
      conditions = pair 1 1 ∷ [];
      effects = record { conditions = []; var = 0; after = bell } ∷ record { conditions = pair 2 1 ∷ []; var = 2; after = 0 } ∷ [];
      cost = 1;
    }

abbrev pub belfry_operators : List Operator
belfry_operators =
    record { name = codes "enter"; conditions = pair 1 0 ∷ []; effects = record { conditions = []; var = 1; after = 1 } ∷ []; cost = 1 }
    ∷ press_with 0
    ∷ press_with 1
    ∷ record { name = codes "ring"; conditions = []; effects = record { conditions = []; var = 0; after = 0 } ∷ []; cost = 1 }
    ∷ []

abbrev pub belfry : Task
belfry =
    record {
      metric = false;
      variables = belfry_variables;
      groups =
          record { facts = pair 0 0 ∷ pair 1 0 ∷ pair 2 1 ∷ [] }
          ∷ record { facts = pair 0 0 ∷ pair 1 1 ∷ [] }
          ∷ record { facts = pair 0 1 ∷ pair 1 0 ∷ pair 2 1 ∷ [] }
          ∷ [];
      state = 1 ∷ 0 ∷ 1 ∷ 1 ∷ 1 ∷ [];
      goal = pair 4 0 ∷ [];
      operators = belfry_operators;
      rules =
          record { conditions = pair 0 0 ∷ []; var = 3; before = 1; after = 0 }
          ∷ record { conditions = pair 1 1 ∷ pair 2 0 ∷ []; var = 4; before = 1; after = 0 }
          ∷ record { conditions = pair 1 1 ∷ pair 2 0 ∷ []; var = 4; before = 1; after = 0 }
          ∷ [];
    }

-- where somebody should see, nothing of the bell is left
abbrev pub belfry_reduced : Task
belfry_reduced =
    record {
      metric = false;
      variables =
          record { layer = None; facts = codes "Atom at(hall)" ∷ codes "Atom at(room)" ∷ [] }
          ∷ record { layer = None; facts = codes "Atom lit()" ∷ codes "NegatedAtom lit()" ∷ [] }
          ∷ record { layer = Some 0; facts = codes "Atom seeing()" ∷ codes "NegatedAtom seeing()" ∷ [] }
          ∷ [];
      groups = record { facts = pair 0 0 ∷ pair 1 1 ∷ [] } ∷ [];
      state = 0 ∷ 1 ∷ 1 ∷ [];
      goal = pair 2 0 ∷ [];
      operators =
          record { name = codes "enter"; conditions = pair 0 0 ∷ []; effects = record { conditions = []; var = 0; after = 1 } ∷ []; cost = 1 }
          ∷ record { name = codes "press"; conditions = pair 0 1 ∷ []; effects = record { conditions = pair 1 1 ∷ []; var = 1; after = 0 } ∷ []; cost = 1 }
          ∷ [];
      rules =
          record { conditions = pair 0 1 ∷ pair 1 0 ∷ []; var = 2; before = 1; after = 0 }
          ∷ record { conditions = pair 0 1 ∷ pair 1 0 ∷ []; var = 2; before = 1; after = 0 }
          ∷ [];
    }
