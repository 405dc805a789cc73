-- Candidates that differ by the names of their parameters, or by the order of their parts, are the same. What it is to have one part more (Helmert 2009, section 5).
use Rattle.std.specs.Prelude.{◌≡◌, ℕ, true, false, nat_eq, nat_lt, List, ◌∷◌, map, length, Contains, IsTrue, ◌↔◌}
use Rattle.std.specs.List.{list_all}
use Rattle.normal_task.specs.declared.task.Normal.{Normal}
use Rattle.normal_task.specs.Lawful.{differ}
use Rattle.contradictions.specs.declared.types.Candidate.{Candidate}
use Rattle.contradictions.specs.declared.types.Part.{Part}
use Rattle.contradictions.specs.Candidates.{at_positions}
use Rattle.invariant_check.specs.Extensions.{part_at, has_predicate, one_predicate, extensions}
use Rattle.invariant_check.specs.WellFormed.{is_part_for, is_well_formed}

abbrev pub of_parts : ℕ → List Part → Candidate
of_parts parameters parts = record { parameters = parameters; parts = parts }

-- the list has the parameters, each once
pub record IsNaming (parameters : ℕ) (names : List ℕ) : Type 0 where
  pub as_many : length names ≡ parameters
  pub parameters_only : list_all (λ name. nat_lt name parameters) names ≡ true
  pub once : differ nat_eq names ≡ true

-- the part with its parameters named anew: each new one is the old one that stands at its place in the list
abbrev pub named : List ℕ → Part → Part
named names part = part_at part.predicate part.counted (at_positions 0 names part.places)

-- with its parameters named anew, the one has the parts of the other
pub record AreSame (candidate other : Candidate) : Type 0 where
  pub parameters : other.parameters ≡ candidate.parameters
  pub names : List ℕ
  pub is_naming : IsNaming candidate.parameters names
  pub parts : (part : Part) → Contains other.parts part ↔ Contains (map (named names) candidate.parts) part

abbrev pub with_one_more : Candidate → Part → Candidate
with_one_more candidate part = of_parts candidate.parameters (part ∷ candidate.parts)

-- the other is the candidate with one part more, which is of a predicate that the candidate has no part of
pub record HasOneMore (task : Normal) (candidate other : Candidate) : Type 0 where
  pub part : Part
  pub is_part : is_part_for task candidate.parameters part ≡ true
  pub new : has_predicate candidate part.predicate ≡ false
  pub same : AreSame (with_one_more candidate part) other

-- ---- what is listed

-- The candidates of one predicate are the well-formed ones of one part.
abbrev pub OnePredicateIsAll : Type 0
OnePredicateIsAll = (task : Normal) (candidate : Candidate) → Contains (one_predicate task) candidate ↔ (IsTrue (is_well_formed task candidate) × (length candidate.parts ≡ 1))

-- The extensions of a well-formed candidate are the well-formed candidates that have one part more.
abbrev pub ExtensionsAreAll : Type 0
ExtensionsAreAll =
    (task : Normal) (candidate : Candidate) → is_well_formed task candidate ≡ true →
    (other : Candidate) → Contains (extensions task candidate) other ↔ (IsTrue (is_well_formed task other) × HasOneMore task candidate other)

-- Well-formed candidates that are the same are equal.
abbrev pub SameAreEqual : Type 0
SameAreEqual = (task : Normal) (candidate other : Candidate) → is_well_formed task candidate ≡ true → is_well_formed task other ≡ true → AreSame candidate other → candidate ≡ other
