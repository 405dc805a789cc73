-- Axioms without recursion.
use Rattle.std.specs.Prelude.{◌≡◌, ℕ, ◌<◌, true, Contains}
use Rattle.ground_task.specs.Literals.{AxiomRow, LiteralTask}

-- No derived atom depends on itself through the axioms: some rank of atoms falls from each axiom's atom to the derived atoms of its condition.
pub record IsRanked {A : Type 0} (task : LiteralTask A) : Type 0 where
  pub rank : A → ℕ
  pub positive : (row : AxiomRow A) → Contains task.axioms row → (atom : A) → Contains row.condition.positive atom → task.is_derived atom ≡ true → rank atom < rank row.atom
  pub negative : (row : AxiomRow A) → Contains task.axioms row → (atom : A) → Contains row.condition.negative atom → task.is_derived atom ≡ true → rank atom < rank row.atom
