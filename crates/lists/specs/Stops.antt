-- Calls that stop: at a fault of what they were given, or for want of memory.
use Rattle.std.specs.Prelude.{◌≡◌, List, ◌∷◌, Result, Ok, Err}
use Rattle.lists.specs.declared.stop.Stop.{Stop}
use Rattle.lists.specs.declared.stop.Stop.TheVariants.{Fault, NoMemory}

-- the fact holds of the fault that is answered, if one is
abbrev pub IfFault : {A F : Type 0} → Result A (Stop F) → (F → Type 0) → Type 0
IfFault (Ok x) fact = Unit {0}
IfFault (Err (Fault fault)) fact = fact fault
IfFault (Err NoMemory) fact = Unit {0}

-- the fact holds, unless memory ran out
abbrev pub UnlessNoMemory : {A F : Type 0} → Result A (Stop F) → Type 0 → Type 0
UnlessNoMemory (Ok x) fact = fact
UnlessNoMemory (Err (Fault fault)) fact = fact
UnlessNoMemory (Err NoMemory) fact = Unit {0}

-- the fault is the first of these
abbrev pub IsFirst : {F : Type 0} → List F → F → Type 0
IsFirst {F} faults fault = (more : List F) × (faults ≡ fault ∷ more)
