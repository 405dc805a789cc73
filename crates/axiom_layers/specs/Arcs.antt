-- Derived facts and those on which they rest, as the layers are found.
use Rattle.std.specs.Prelude.{◌≡◌, ℕ, ◌+◌, ◌<◌, ◌≤◌, ◌⊎◌, List, map, filter, ◌++◌, length, Contains, slice_index, slice_set, nat_le, if◌then◌else◌}
use Rattle.std.specs.List.{flat_map}
use Rattle.reached_task.specs.declared.types.Fact.{Fact}
use Rattle.reached_task.specs.declared.types.Reached.{Reached}
use Rattle.reached_task.specs.declared.types.ReachedAxiom.{ReachedAxiom}
use Rattle.reached_task.specs.ReachedTask.{is_derived}
use Rattle.names.specs.declared.arcs.Arc.{Arc}

-- the arc of a fact that rests on a lower one
abbrev pub arc_to : ℕ → ℕ → Arc
arc_to fact low = record { from = low; to = fact }

-- an arc to the axiom's fact from each derived fact in its body
abbrev pub arcs_at : List Fact → ReachedAxiom → List Arc
arcs_at facts row = map (arc_to row.fact) (filter (is_derived facts) row.condition.positive) ++ map (arc_to row.fact) (filter (is_derived facts) row.condition.negative)

abbrev pub arcs_of : Reached → List Arc
arcs_of reached = flat_map (arcs_at reached.facts) reached.axioms

-- arcs between so many facts, none of which rests on itself: some rank falls along each arc
pub record AreSound (count : ℕ) (arcs : List Arc) : Type 0 where
  pub within : (arc : Arc) → Contains arcs arc → (arc.to < count) × (arc.from < count)
  pub rank : ℕ → ℕ
  pub falls : (arc : Arc) → Contains arcs arc → rank arc.from < rank arc.to

-- the layer of the arc's fact is above that of its lower fact
abbrev pub IsAbove : List ℕ → Arc → Type 0
IsAbove layers arc = slice_index layers arc.from < slice_index layers arc.to

-- no layer is higher than it must be: it is 0, or at most one more than that of a lower fact
abbrev pub AreHeld : List Arc → List ℕ → Type 0
AreHeld arcs layers =
    (fact : ℕ) → fact < length layers → (slice_index layers fact ≡ 0) ⊎ ((arc : Arc) × Contains arcs arc × (arc.to ≡ fact) × (slice_index layers fact ≤ slice_index layers arc.from + 1))

-- the layers with the arc's fact above its lower fact
abbrev pub lifted : List ℕ → Arc → List ℕ
lifted layers arc =
    if nat_le (slice_index layers arc.to) (slice_index layers arc.from) then slice_set layers arc.to (slice_index layers arc.from + 1) else layers
