-- The table of the operators' costs.
use Rattle.std.specs.Prelude.{◌≡◌, ℕ, ◌≤◌, List, All}
use Rattle.std.specs.Borrow.{Bor}
use Rattle.indexmap.specs.IndexMap.{IndexMap, get}
use Rattle.names.specs.Names.{Name, is_same}
use Rattle.sas_task.specs.declared.parts.Operator.{Operator}
use Rattle.plan_backmap.specs.Plans.{cost_of}

-- the table gives each name the cost of the first operator with it
abbrev pub HoldsCosts : {S : Type 0} → List Operator → IndexMap (Bor Name) ℕ S → Type 0
HoldsCosts operators table = (name : Bor Name) → get (λ a b. is_same a.now b.now) table name ≡ cost_of operators name.now

-- each operator's cost is at most 2,147,483,647
abbrev pub AreSmall : List Operator → Type 0
AreSmall operators = All (λ operator. operator.cost ≤ 2147483647) operators
