-- Candidates for invariants, their instances, and what these weigh (Helmert 2009, section 5).
use Rattle.std.specs.Prelude.{◌≡◌, ℕ, Bool, true, ◌&&◌, nat_eq, List, map, get_or, length, Contains, IsTrue, ◌↔◌}
use Rattle.std.specs.Cmp.Lexicographic.{pointwise}
use Rattle.std.specs.List.{list_any, IsDistinct}
use Rattle.normal_task.specs.declared.task.GroundAtom.{GroundAtom}
use Rattle.normal_task.specs.Meaning.{State, is_same_atom}
use Rattle.contradictions.specs.declared.types.Candidate.{Candidate}
use Rattle.contradictions.specs.declared.types.Part.{Part}

-- what stands at the positions, one after the other
abbrev pub at_positions : {A : Type 0} → A → List ℕ → List A → List A
at_positions other positions items = map (λ position. get_or items position other) positions

-- the atom is of the part's predicate, and has the objects of the instance at the places of the parameters
abbrev pub part_covers : List ℕ → GroundAtom → Part → Bool
part_covers instance atom part = nat_eq part.predicate atom.predicate && pointwise nat_eq (at_positions 0 part.places atom.objects) instance

-- the instance that gives the parameters these objects covers the atom
abbrev pub covers : Candidate → List ℕ → GroundAtom → Bool
covers candidate instance atom = list_any (part_covers instance atom) candidate.parts

-- any two true atoms that the instance covers are the same: its weight in the state is at most one
abbrev pub IsAtMostOne : State → Candidate → List ℕ → Type 0
IsAtMostOne state candidate instance =
    (x y : GroundAtom) → covers candidate instance x ≡ true → covers candidate instance y ≡ true → state x ≡ true → state y ≡ true → x ≡ y

-- The instance has this weight in the state: the number of true atoms that it covers.
pub record HasWeight (state : State) (candidate : Candidate) (instance : List ℕ) (weight : ℕ) : Type 0 where
  pub atoms : List GroundAtom
  pub are_those : (atom : GroundAtom) → Contains atoms atom ↔ (IsTrue (covers candidate instance atom) × IsTrue (state atom))
  pub once : IsDistinct is_same_atom atoms
  pub weight_is : length atoms ≡ weight
