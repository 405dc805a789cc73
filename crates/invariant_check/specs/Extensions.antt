-- Candidates with one part, and those with one part more than a candidate, in the order in which they are tried (Helmert 2009, section 5).
use Rattle.std.specs.Prelude.{ℕ, zero, suc, Bool, false, not, ◌&&◌, nat_eq, nat_lt, List, [], ◌∷◌, map, length, get_or, filter, Option, Some, None, slice_get, if◌then◌else◌}
use Rattle.std.specs.List.{list_any, flat_map, range_with_len, position_or_len}
use Rattle.std.specs.Option.{option_map_or}
use Rattle.normal_task.specs.declared.task.Normal.{Normal}
use Rattle.contradictions.specs.declared.types.Candidate.{Candidate}
use Rattle.contradictions.specs.declared.types.Part.{Part}

-- ---- predicates

-- Effects change the predicate: it is basic and not static.
abbrev pub is_changing : Normal → ℕ → Bool
is_changing task predicate = option_map_or (λ row. not row.derived && not row.fixed) (slice_get task.predicates predicate) false

abbrev pub arity_of : Normal → ℕ → ℕ
arity_of task predicate = option_map_or (λ row. row.arity) (slice_get task.predicates predicate) 0

-- the predicates that effects change, in their order
abbrev pub changing : Normal → List ℕ
changing task = filter (is_changing task) (range_with_len 0 (length task.predicates))

-- ---- argument positions

abbrev pub is_counted : Option ℕ → ℕ → Bool
is_counted counted position = option_map_or (nat_eq position) counted false

-- the argument positions that are left to the parameters: all but the counted one
abbrev pub left_by : ℕ → Option ℕ → List ℕ
left_by arity counted = filter (λ position. not (is_counted counted position)) (range_with_len 0 arity)

-- No position is counted, or one of them: in this order.
abbrev pub countings : ℕ → List (Option ℕ)
countings arity = None ∷ map Some (range_with_len 0 arity)

abbrev pub without : ℕ → List ℕ → List ℕ
without position positions = filter (λ other. not (nat_eq other position)) positions

-- Every order of so many of the positions. Orders are compared from left to right.
abbrev pub orders : List ℕ → ℕ → List (List ℕ)
orders positions zero = [] ∷ []
orders positions (suc count) = flat_map (λ position. map (λ others. position ∷ others) (orders (without position positions) count)) positions

-- ---- one part

abbrev pub part_at : ℕ → Option ℕ → List ℕ → Part
part_at predicate counted places = record { predicate = predicate; places = places; counted = counted }

-- The candidate with one part: each position but the counted one is a parameter, in its turn.
abbrev pub with_one : ℕ → ℕ → Option ℕ → Candidate
with_one predicate arity counted = record { parameters = length (left_by arity counted); parts = part_at predicate counted (left_by arity counted) ∷ [] }

-- by predicate, and then by what is counted
abbrev pub one_predicate : Normal → List Candidate
one_predicate task = flat_map (λ predicate. map (with_one predicate (arity_of task predicate)) (countings (arity_of task predicate))) (changing task)

-- ---- one part more

-- The parts of the predicate with this counted, one for each placement: so many parameters take the positions that are left, in some order.
abbrev pub parts_counting : ℕ → ℕ → ℕ → Option ℕ → List Part
parts_counting predicate arity parameters counted =
    if nat_eq (length (left_by arity counted)) parameters then map (part_at predicate counted) (orders (left_by arity counted) parameters) else []

-- by what is counted, and then by placement
abbrev pub parts_of : Normal → ℕ → ℕ → List Part
parts_of task parameters predicate = flat_map (parts_counting predicate (arity_of task predicate) parameters) (countings (arity_of task predicate))

abbrev pub has_predicate : Candidate → ℕ → Bool
has_predicate candidate predicate = list_any (λ part. nat_eq part.predicate predicate) candidate.parts

-- the part put among the others, by predicate
abbrev pub put_in : Part → List Part → List Part
put_in part [] = part ∷ []
put_in part (first ∷ more) = if nat_lt part.predicate first.predicate then part ∷ first ∷ more else first ∷ put_in part more

-- the positions that the part's parameters take, from the lowest on
abbrev pub rising_places : Normal → Part → List ℕ
rising_places task part = filter (λ position. list_any (nat_eq position) part.places) (range_with_len 0 (arity_of task part.predicate))

-- The part with its parameters named anew, in the order in which the first part has them at these places.
abbrev pub renamed : List ℕ → Part → Part → Part
renamed rising first part = part_at part.predicate part.counted (map (λ place. get_or part.places (position_or_len (nat_eq place) first.places) 0) rising)

-- The parts in the form in which candidates are kept: the names of parameters mean nothing, so they are named such that the first part's places rise.
abbrev pub in_form : Normal → List Part → List Part
in_form task [] = []
in_form task (first ∷ more) = map (renamed (rising_places task first) first) (first ∷ more)

abbrev pub with_part : Normal → Candidate → Part → Candidate
with_part task candidate part = record { parameters = candidate.parameters; parts = in_form task (put_in part candidate.parts) }

-- All candidates with one part more, for another predicate: by the predicate of that part, what it counts, and its placement.
abbrev pub extensions : Normal → Candidate → List Candidate
extensions task candidate =
    map (with_part task candidate) (flat_map (parts_of task candidate.parameters) (filter (λ predicate. not (has_predicate candidate predicate)) (changing task)))
