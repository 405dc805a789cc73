-- What the clauses of a call that answers the first fault say together.
use Rattle.std.proofs.Common.{◌≡◌, List, [], ◌∷◌, Result, Ok, Err, refl, sym, ap, ◌∙◌}
use Rattle.std.specs.Prelude.{IsOk, OnOk}
use Rattle.lists.specs.Stops.{IfFault, UnlessNoMemory, IsFirst}
use Rattle.lists.specs.declared.stop.Stop.{Stop}
use Rattle.lists.specs.declared.stop.Stop.TheVariants as stops

module _ {F : Type 0} where
  -- faults have one first
  pub first_same : (faults : List F) (one other : F) → IsFirst faults one → IsFirst faults other → one ≡ other
  first_same faults one other a b = let same : one ∷ a.0 ≡ other ∷ b.0 = sym a.1 ∙ b.1 in cc

  pub some_first : (faults : List F) (fault : F) → IsFirst faults fault → faults ≡ [] → ⊥
  some_first faults fault a none = let same : fault ∷ a.0 ≡ [] = sym a.1 ∙ none in cc

  -- where there is no fault, there is an answer
  pub is_answered : {A : Type 0} (faults : List F) (result : Result A (Stop F)) → IfFault result (IsFirst faults) → faults ≡ [] → UnlessNoMemory result (IsOk result)
  is_answered faults (Ok x) first none = refl
  is_answered faults (Err (stops.Fault fault)) first none = absurd (some_first faults fault first none)
  is_answered faults (Err stops.NoMemory) first none = tt

  -- where there is a fault, the first is answered
  pub is_fault : {A : Type 0} (faults : List F) (result : Result A (Stop F)) → OnOk result (faults ≡ []) → IfFault result (IsFirst faults)
      → (fault : F) → IsFirst faults fault → UnlessNoMemory result (result ≡ Err (stops.Fault fault))
  is_fault faults (Ok x) faultless first fault is = absurd (some_first faults fault is faultless)
  is_fault faults (Err (stops.Fault found)) faultless first fault is = ap (λ f. Err (stops.Fault f)) (first_same faults found fault first is)
  is_fault faults (Err stops.NoMemory) faultless first fault is = tt
