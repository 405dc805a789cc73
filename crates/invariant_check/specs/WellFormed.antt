-- When a candidate is well formed for a task (Helmert 2009, section 5): each parameter stands on one place of each of its predicates, and at most one place of a predicate is left, which is counted.
use Rattle.std.specs.Prelude.{ℕ, Bool, false, ◌&&◌, nat_eq, nat_lt, List, [], ◌∷◌, ◌++◌, map, length}
use Rattle.std.specs.List.{list_all}
use Rattle.std.specs.Option.{option_to_list}
use Rattle.normal_task.specs.declared.task.Normal.{Normal}
use Rattle.normal_task.specs.Lawful.{is_rising, differ}
use Rattle.contradictions.specs.declared.types.Candidate.{Candidate}
use Rattle.contradictions.specs.declared.types.Part.{Part}
use Rattle.invariant_check.specs.Extensions.{is_changing, arity_of}

-- the places of the parameters, and the counted one
abbrev pub used_places : Part → List ℕ
used_places part = part.places ++ option_to_list part.counted

-- The part is of a predicate that effects change. It has a place for each of so many parameters, and at most one place is counted: these are all places of the predicate, each once.
abbrev pub is_part_for : Normal → ℕ → Part → Bool
is_part_for task parameters part =
    is_changing task part.predicate && nat_eq (length part.places) parameters && nat_eq (length (used_places part)) (arity_of task part.predicate)
    && list_all (λ place. nat_lt place (arity_of task part.predicate)) (used_places part)
    && differ nat_eq (used_places part)

-- there is a first part, and its places rise: so the parameters have their names
abbrev pub is_named_by_first : List Part → Bool
is_named_by_first [] = false
is_named_by_first (first ∷ more) = is_rising first.places

-- The candidate's parts are for its parameters, and stand in the order of their predicates, each predicate once.
abbrev pub is_well_formed : Normal → Candidate → Bool
is_well_formed task candidate =
    list_all (is_part_for task candidate.parameters) candidate.parts && is_rising (map (λ part. part.predicate) candidate.parts) && is_named_by_first candidate.parts
