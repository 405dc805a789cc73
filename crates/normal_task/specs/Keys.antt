-- Atoms and terms as lists of numbers.
use Rattle.std.specs.Prelude.{ℕ, List, ◌∷◌}
use Rattle.normal_task.specs.declared.task.GroundAtom.{GroundAtom}
use Rattle.normal_task.specs.declared.task.ValueRow.{ValueRow}

-- an atom, and a function with its objects, as keys
abbrev pub atom_key : GroundAtom → List ℕ
atom_key atom = atom.predicate ∷ atom.objects

abbrev pub value_key : ValueRow → List ℕ
value_key row = row.function ∷ row.objects
