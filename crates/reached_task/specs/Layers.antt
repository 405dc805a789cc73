-- Layers of derived facts (the planner's output format: axiom layers).
use Rattle.std.specs.Prelude.{◌≡◌, ℕ, ◌+◌, ◌<◌, ◌⊎◌, true, false, List, length, Contains, slice_index}
use Rattle.ground_task.specs.declared.types.Cond.{Cond}
use Rattle.reached_task.specs.declared.types.ReachedAxiom.{ReachedAxiom}
use Rattle.reached_task.specs.declared.types.Reached.{Reached}
use Rattle.reached_task.specs.ReachedTask.{is_derived}

-- the literals name the fact
abbrev pub Names : Cond ℕ → ℕ → Type 0
Names literals fact = Contains literals.positive fact ⊎ Contains literals.negative fact

-- some axiom of the first fact has the second, a derived one, in its body
pub record RestsOn (reached : Reached) (fact low : ℕ) : Type 0 where
  pub axiom' : ReachedAxiom
  pub of_task : Contains reached.axioms axiom'
  pub for_fact : axiom'.fact ≡ fact
  pub named : Names axiom'.condition low
  pub derived : is_derived reached.facts low ≡ true

-- one number for each fact: 0 for a basic one; a derived one's layer is 0 where it rests on no derived fact, and else one more than the greatest layer of a derived fact on which it rests
pub record AreLayers (reached : Reached) (layers : List ℕ) : Type 0 where
  pub count : length layers ≡ length reached.facts
  pub basic : (fact : ℕ) → fact < length layers → is_derived reached.facts fact ≡ false → slice_index layers fact ≡ 0
  pub above : (fact low : ℕ) → fact < length layers → RestsOn reached fact low → slice_index layers low < slice_index layers fact
  pub least : (fact : ℕ) → fact < length layers → (slice_index layers fact ≡ 0) ⊎ ((low : ℕ) × RestsOn reached fact low × (slice_index layers fact ≡ slice_index layers low + 1))
