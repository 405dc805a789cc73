-- The table of the operators' costs, as it is filled.
use Rattle.std.proofs.Common.{◌≡◌, ℕ, suc, ◌≤◌, Bool, true, false, List, [], ◌∷◌, drop, Some, Bor, ap, ◌∙◌, arith, if◌then◌else◌}
use Rattle.std.specs.Prelude.{IfSome}
use Rattle.std.specs.List.{slice_get}
use Rattle.std.proofs.Math.Seq.{drop-cons}
use Rattle.std.proofs.lemmas.Cmp.{nat_list_eq_equiv}
use Rattle.std.proofs.lemmas.Option.{slice_get_within, get_or_from_slice_get}
use Rattle.indexmap.specs.IndexMap.{IndexMap, Updates}
use Rattle.names.specs.Names.{Name, is_same}
use Rattle.sas_task.specs.declared.parts.Operator.{Operator}
use Rattle.plan_backmap.specs.Plans.{cost_of}
use Rattle.plan_backmap.specs.Costs.{HoldsCosts, AreSmall}

-- what is left from an item on
pub drop_got : {X : Type 0} (xs : List X) (i : ℕ) (x : X) → slice_get xs i ≡ Some x → drop i xs ≡ x ∷ drop (suc i) xs
drop_got xs i x e = drop-cons xs i x (slice_get_within xs i x e) ∙ ap (λ y. y ∷ drop (suc i) xs) (get_or_from_slice_get xs i x x e)

-- one operator before the others
pub costs_more : {S : Type 0} (operator : Operator) (operators : List Operator) (old new : IndexMap (Bor Name) ℕ S) (key : Bor Name) → key.now ≡ operator.name →
    HoldsCosts operators old → Updates (λ a b. is_same a.now b.now) old new key (Some operator.cost) → HoldsCosts (operator ∷ operators) new
costs_more operator operators old new key key_is holds updates other =
    updates.0 other
    ∙ ap (λ o. if is_same key.now other.now then Some operator.cost else o) (holds other)
    ∙ ap (λ k. if is_same k other.now then Some operator.cost else cost_of operators other.now) key_is
    ∙ ap (λ t. if t then Some operator.cost else cost_of operators other.now) (nat_list_eq_equiv.symm operator.name other.now)

-- each cost is at most the greatest
pub small_cost : (operators : List Operator) (name : List ℕ) → AreSmall operators → IfSome (cost_of operators name) (λ cost. cost ≤ 2147483647)
small_cost [] name small = tt
small_cost (operator ∷ operators) name small = by (is_same name operator.name) (small_cost operators name (λ k d within. small (suc k) d (omega (arith, within))))
  where
    by : (t : Bool) → IfSome (cost_of operators name) (λ cost. cost ≤ 2147483647) → IfSome (if t then Some operator.cost else cost_of operators name) (λ cost. cost ≤ 2147483647)
    by true more = small 0 operator (omega arith)
    by false more = more
