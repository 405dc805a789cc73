-- A house with a dark cellar, pruned by hand.
use Rattle.std.specs.Prelude.{ℕ, false, nat_lt, ◌==◌, ◌&&◌, List, [], ◌∷◌, None, codes, slice_index}
use Rattle.std.specs.List.{list_any}
use Rattle.sas_task.specs.declared.parts.Pair.{Pair}
use Rattle.sas_task.specs.declared.parts.Variable.{Variable}
use Rattle.sas_task.specs.declared.parts.Effect.{Effect}
use Rattle.sas_task.specs.declared.parts.Operator.{Operator}
use Rattle.sas_task.specs.Task.{Task}
use Rattle.sas_task.specs.Pairs.{pair}
use Rattle.pass_possible.specs.Possible.{Pairs}

abbrev pub sets : ℕ → ℕ → Effect
sets var val = record { conditions = []; var = var; after = val }

abbrev pub free : List ℕ → List Pair → List Effect → Operator
free name conditions effects = record { name = name; conditions = conditions; effects = effects; cost = 1 }

abbrev pub lamp_and_book : List Variable
lamp_and_book =
    record { layer = None; facts = codes "Atom lit()" ∷ codes "NegatedAtom lit()" ∷ [] }
    ∷ record { layer = None; facts = codes "Atom read()" ∷ codes "NegatedAtom read()" ∷ [] }
    ∷ []

-- The lamp is lit in the cellar and goes out on the way up, so it never shines in the hall, though each of both facts is possible. Nobody can fly to the attic or read, and what flickers is two things at once
abbrev pub house : Task
house =
    record {
      metric = false;
      variables = record { layer = None; facts = codes "Atom at(cellar)" ∷ codes "Atom at(attic)" ∷ codes "Atom at(hall)" ∷ [] } ∷ lamp_and_book;
      groups =
          record { facts = pair 0 0 ∷ pair 0 1 ∷ pair 0 2 ∷ [] }
          ∷ record { facts = pair 0 1 ∷ pair 0 2 ∷ pair 1 0 ∷ [] }
          ∷ record { facts = pair 0 1 ∷ pair 1 0 ∷ [] }
          ∷ record { facts = pair 0 2 ∷ pair 1 0 ∷ [] }
          ∷ [];
      state = 2 ∷ 1 ∷ 1 ∷ [];
      goal = pair 1 0 ∷ pair 2 0 ∷ [];
      operators =
          free (codes "climb") (pair 0 0 ∷ []) (sets 0 2 ∷ sets 1 1 ∷ [])
          ∷ free (codes "descend") (pair 0 2 ∷ []) (sets 0 0 ∷ [])
          ∷ free (codes "flicker") [] (sets 1 0 ∷ sets 1 1 ∷ [])
          ∷ free (codes "fly") (pair 0 2 ∷ pair 1 0 ∷ []) (sets 0 1 ∷ [])
          ∷ free (codes "light") (pair 0 0 ∷ []) (sets 1 0 ∷ [])
          ∷ free (codes "read") (pair 0 2 ∷ pair 1 0 ∷ []) (sets 2 0 ∷ [])
          ∷ [];
      rules = [];
    }

-- the states of the house in which its possible pairs hold: at first in the hall, in the dark cellar, and in the lit one
abbrev pub house_states : List (List ℕ)
house_states = (2 ∷ 1 ∷ 1 ∷ []) ∷ (0 ∷ 1 ∷ 1 ∷ []) ∷ (0 ∷ 0 ∷ 1 ∷ []) ∷ []

-- two facts are a possible pair where both hold in one of these
abbrev pub house_pairs : Pairs
house_pairs p q =
    nat_lt p.var 3 && (nat_lt q.var 3 && list_any (λ s. (slice_index s p.var == p.val) && (slice_index s q.var == q.val)) house_states)

-- what is left: there is no attic, two groups are one, and one has a single fact left and goes. That the book is read isn't possible, but the goal
abbrev pub house_pruned : Task
house_pruned =
    record {
      metric = false;
      variables = record { layer = None; facts = codes "Atom at(cellar)" ∷ codes "Atom at(hall)" ∷ [] } ∷ lamp_and_book;
      groups =
          record { facts = pair 0 0 ∷ pair 0 1 ∷ [] }
          ∷ record { facts = pair 0 1 ∷ pair 1 0 ∷ [] }
          ∷ [];
      state = 1 ∷ 1 ∷ 1 ∷ [];
      goal = pair 1 0 ∷ pair 2 0 ∷ [];
      operators =
          free (codes "climb") (pair 0 0 ∷ []) (sets 0 1 ∷ sets 1 1 ∷ [])
          ∷ free (codes "descend") (pair 0 1 ∷ []) (sets 0 0 ∷ [])
          ∷ free (codes "light") (pair 0 0 ∷ []) (sets 1 0 ∷ [])
          ∷ [];
      rules = [];
    }
