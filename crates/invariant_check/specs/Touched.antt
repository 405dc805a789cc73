-- Words of private contracts: the add effects of a task by predicate, and the schemas that a candidate looks at, which are those that add atoms of its predicates.
use Rattle.std.specs.Prelude.{ℕ, ◌+◌, Bool, true, false, ◌&&◌, List, [], ◌∷◌, ◌++◌, map, length, filter, Option, Some, None, slice_get}
use Rattle.std.specs.List.{list_any, position_from, range_with_len}
use Rattle.std.specs.Option.{option_map_or}
use Rattle.normal_task.specs.declared.task.EffectRow.{EffectRow}
use Rattle.normal_task.specs.declared.task.Normal.{Normal}
use Rattle.normal_task.specs.declared.task.Schema.{Schema}
use Rattle.contradictions.specs.declared.types.Candidate.{Candidate}
use Rattle.invariant_check.specs.Extensions.{has_predicate}
use Rattle.invariant_check.specs.declared.types.AddOf.{AddOf}
use Rattle.invariant_check.specs.declared.types.AddPlace.{AddPlace}
use Rattle.invariant_check.specs.Accepted.{is_light_in}
use Rattle.invariant_check.specs.Repairs.{is_unbalanced_add}

-- ---- add effects

abbrev pub add_of : ℕ → EffectRow → AddOf
add_of number row = record { predicate = row.predicate; schema = number }

abbrev pub adds_of : ℕ → Schema → List AddOf
adds_of number schema = map (add_of number) (filter (λ row. row.adds) schema.effects)

-- the add effects of the schemas, which are numbered from this number on
abbrev pub adds_from : ℕ → List Schema → List AddOf
adds_from number [] = []
adds_from number (schema ∷ more) = adds_of number schema ++ adds_from (number + 1) more

-- ---- the schemas that a candidate looks at

-- the schema adds atoms of some predicate of the candidate
abbrev pub touches : Candidate → Schema → Bool
touches candidate schema = list_any (λ row. row.adds && has_predicate candidate row.predicate) schema.effects

abbrev pub is_touching : Normal → Candidate → ℕ → Bool
is_touching task candidate number = option_map_or (touches candidate) (slice_get task.schemas number) false

-- the numbers of these schemas, in their order
abbrev pub touching : Normal → Candidate → List ℕ
touching task candidate = filter (is_touching task candidate) (range_with_len 0 (length task.schemas))

-- ---- what they say

abbrev pub is_light_at : Normal → Candidate → ℕ → Bool
is_light_at task candidate number = option_map_or (is_light_in candidate) (slice_get task.schemas number) true

-- the first effect of the schema that is an add and isn't balanced
abbrev pub first_row_at : Normal → Candidate → ℕ → Option ℕ
first_row_at task candidate number = option_map_or (λ schema. position_from (is_unbalanced_add task candidate schema) 0 schema.effects) (slice_get task.schemas number) None

-- the first such effect of the schemas with these numbers
abbrev pub first_among : Normal → Candidate → List ℕ → Option AddPlace
first_among task candidate [] = None
first_among task candidate (number ∷ more) =
    option_map_or (λ effect. Some (record { schema = number; effect = effect })) (first_row_at task candidate number) (first_among task candidate more)
