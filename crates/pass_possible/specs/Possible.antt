-- Which pairs of facts may hold together, as far as pairs show (Haslum and Geffner 2000: h2).
use Rattle.std.specs.Prelude.{◌≡◌, ◌<◌, Bool, false, IsTrue, ◌==◌, ◌&&◌, not, List, length, Contains, is_none, slice_index}
use Rattle.std.specs.List.{list_all, list_any}
use Rattle.sas_task.specs.declared.parts.Pair.{Pair}
use Rattle.sas_task.specs.declared.parts.Effect.{Effect}
use Rattle.sas_task.specs.declared.parts.Operator.{Operator}
use Rattle.sas_task.specs.Task.{Task}
use Rattle.sas_task.specs.Effects.{changes, fact_of}

-- no variable is derived, there is no rule, and no effect has a condition
abbrev pub is_plain : Task → Bool
is_plain task =
    list_all (λ v. is_none v.layer) task.variables
    && ((length task.rules == 0) && list_all (λ o. list_all (λ e. length e.conditions == 0) o.effects) task.operators)

-- two effects of the operator give one variable two values: in a plain task it never has a successor
abbrev pub is_mixed : Operator → Bool
is_mixed o = list_any (λ a. list_any (λ b. (a.var == b.var) && not (a.after == b.after)) o.effects) o.effects

-- the fact holds in the written state
abbrev pub IsInitial : Task → Pair → Type 0
IsInitial task p = (p.var < length task.variables) × (slice_index task.state p.var ≡ p.val)

-- a set of pairs of facts, as a test
abbrev pub Pairs : Type 0
Pairs = Pair → Pair → Bool

-- all pairs of these facts are in the set, a fact with itself included
abbrev pub all_pairs : Pairs → List Pair → Bool
all_pairs pairs facts = list_all (λ p. list_all (λ q. pairs p q) facts) facts

-- an operator is possible where it isn't mixed and all pairs of its conditions are
abbrev pub is_possible : Pairs → Operator → Bool
is_possible pairs o = not (is_mixed o) && all_pairs pairs o.conditions

-- A set of pairs of facts has all that pairs show to be possible, where it has
-- turned: with a pair the same two facts in the other order
-- state: the pairs of facts of the written state
-- effects: of an operator that is possible by it, the pairs of facts that its effects make true
-- effect: and each of these facts with each fact of a variable that the operator doesn't change, where it has this one with itself and with each of the operator's conditions
pub record HasPossible (task : Task) (has : Pairs) : Type 0 where
  pub turned : (p q : Pair) → IsTrue (has p q) → IsTrue (has q p)
  pub state : (p q : Pair) → IsInitial task p → IsInitial task q → IsTrue (has p q)
  pub effects : (o : Operator) (a b : Effect) → Contains task.operators o → IsTrue (is_possible has o) → Contains o.effects a → Contains o.effects b → IsTrue (has (fact_of a) (fact_of b))
  pub effect : (o : Operator) (e : Effect) (g : Pair) → Contains task.operators o → IsTrue (is_possible has o) → Contains o.effects e → changes o g.var ≡ false → IsTrue (has g g) → IsTrue (list_all (λ p. has g p) o.conditions) → IsTrue (has (fact_of e) g)

-- these are the possible pairs: the least such set
pub record ArePossible (task : Task) (pairs : Pairs) : Type 0 where
  pub closed : HasPossible task pairs
  pub least : (has : Pairs) → HasPossible task has → (p q : Pair) → IsTrue (pairs p q) → IsTrue (has p q)
