-- How groups are found: by the instances that the initial atoms give.
use Rattle.std.specs.Prelude.{◌≡◌, ℕ, zero, suc, Bool, true, false, ◌&&◌, ◌||◌, List, length, filter, Option, Some, None, nat_eq}
use Rattle.std.specs.Map.{lookup}
use Rattle.std.specs.List.{list_any, find}
use Rattle.std.specs.Option.{option_map, option_map_or}
use Rattle.names.specs.Names.{is_same}
use Rattle.normal_task.specs.declared.task.GroundAtom.{GroundAtom}
use Rattle.normal_task.specs.Lawful.{differ}
use Rattle.ground_task.specs.Buckets.{numbers_in}
use Rattle.reached_task.specs.declared.types.Fact.{Fact}
use Rattle.contradictions.specs.declared.types.Candidate.{Candidate}
use Rattle.contradictions.specs.declared.types.Part.{Part}
use Rattle.contradictions.specs.Candidates.{at_positions, covers}
use Rattle.mutex_groups.specs.declared.tables.Weight.{Weight}
use Rattle.mutex_groups.specs.declared.tables.Weight.TheVariants.{One, Several}
use Rattle.mutex_groups.specs.Groups.{covered_facts}

-- how many of the atoms the instance covers
abbrev pub weight_among : Candidate → List GroundAtom → List ℕ → ℕ
weight_among candidate atoms instance = length (filter (covers candidate instance) atoms)

-- no two parts are of one predicate
abbrev pub parts_differ : Candidate → Bool
parts_differ candidate = differ (λ part other. nat_eq part.predicate other.predicate) candidate.parts

-- the first part of the atom's predicate
abbrev pub part_of : Candidate → GroundAtom → Option Part
part_of candidate atom = find (λ part. nat_eq part.predicate atom.predicate) candidate.parts

-- the instance that covers the atom: its objects at the places of the parameters
abbrev pub instance_of : Candidate → GroundAtom → Option (List ℕ)
instance_of candidate atom = option_map (λ part. at_positions 0 part.places atom.objects) (part_of candidate atom)

-- what a table holds of an instance of this weight
abbrev pub told : ℕ → Option Weight
told zero = None
told (suc zero) = Some One
told (suc (suc n)) = Some Several

-- the atom gives the group: the instance that covers it weighs one, and covers just these facts
abbrev pub gives : Candidate → List GroundAtom → List Fact → List ℕ → GroundAtom → Bool
gives candidate init facts group atom =
    option_map_or (λ instance. nat_eq (weight_among candidate init instance) 1 && is_same group (covered_facts candidate instance facts)) (instance_of candidate atom) false

-- some initial atom gives the group
abbrev pub has_group : List GroundAtom → List Fact → List ℕ → Candidate → Bool
has_group init facts group candidate = list_any (gives candidate init facts group) init

-- the same of one atom more
abbrev pub told_more : Option Weight → Option Weight
told_more None = Some One
told_more (Some weight) = Some Several

abbrev pub is_one : Option Weight → Bool
is_one None = false
is_one (Some One) = true
is_one (Some Several) = false

-- what tables have for an instance
abbrev pub weight_in : List (List ℕ × Weight) → List ℕ → Option Weight
weight_in entries instance = lookup (is_same instance) entries

-- the table has the weights of the candidate's instances among the atoms
abbrev pub HoldsWeights : Candidate → List GroundAtom → List (List ℕ × Weight) → Type 0
HoldsWeights candidate atoms entries = (instance : List ℕ) → weight_in entries instance ≡ told (weight_among candidate atoms instance)

-- the table has the facts that the candidate's instances cover
abbrev pub HoldsNumbers : Candidate → List Fact → List (List ℕ × List ℕ) → Type 0
HoldsNumbers candidate facts entries = (instance : List ℕ) → numbers_in entries instance ≡ covered_facts candidate instance facts

-- by the tables, the instance weighs one and covers just these facts
abbrev pub covers_just : List (List ℕ × Weight) → List (List ℕ × List ℕ) → List ℕ → List ℕ → Bool
covers_just weights members group instance = is_one (weight_in weights instance) && is_same group (numbers_in members instance)

-- the groups with the one that the atom gives, if it gives one
abbrev pub AddsGroup : Candidate → GroundAtom → List (List ℕ × Weight) → List (List ℕ × List ℕ) → List (List ℕ) → List (List ℕ) → Type 0
AddsGroup candidate atom weights members old new =
    (init : List GroundAtom) (facts : List Fact) → HoldsWeights candidate init weights → HoldsNumbers candidate facts members →
    (group : List ℕ) → list_any (is_same group) new ≡ (gives candidate init facts group atom || list_any (is_same group) old)
