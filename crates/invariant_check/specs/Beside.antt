-- Words of private contracts: the predicates among which the repairs of a candidate are looked for, and what of the candidate matters there.
use Rattle.std.specs.Prelude.{◌≡◌, ℕ, Bool, true, false, not, ◌&&◌, ◌||◌, nat_eq, List, [], ◌∷◌, map, filter, slice_get}
use Rattle.std.specs.List.{list_any, flat_map}
use Rattle.std.specs.Option.{option_map_or}
use Rattle.normal_task.specs.declared.task.EffectRow.{EffectRow}
use Rattle.normal_task.specs.declared.task.Literal.{Literal}
use Rattle.normal_task.specs.declared.task.Literal.TheVariants.{Holds, Equal}
use Rattle.normal_task.specs.declared.task.Normal.{Normal}
use Rattle.normal_task.specs.declared.task.Schema.{Schema}
use Rattle.contradictions.specs.declared.types.Candidate.{Candidate}
use Rattle.contradictions.specs.declared.types.Part.{Part}
use Rattle.invariant_check.specs.Extensions.{changing, has_predicate, parts_of, with_part}
use Rattle.invariant_check.specs.declared.types.AddPlace.{AddPlace}
use Rattle.invariant_check.specs.Repairs.{balances_add}

-- the predicates that effects change and of which the candidate has no part
abbrev pub others : Normal → Candidate → List ℕ
others task candidate = filter (λ predicate. not (has_predicate candidate predicate)) (changing task)

-- of the candidates with one part more, for one of these predicates, those under which some delete effect balances the add
abbrev pub repairs_among : Normal → Candidate → AddPlace → List ℕ → List Candidate
repairs_among task candidate place predicates = filter (balances_add task place) (map (with_part task candidate) (flat_map (parts_of task candidate.parameters) predicates))

-- ---- what is deleted

abbrev pub deletes_of : ℕ → EffectRow → Bool
deletes_of predicate row = not row.adds && nat_eq row.predicate predicate

-- the schema deletes atoms of the predicate
abbrev pub deletes : Schema → ℕ → Bool
deletes schema predicate = list_any (deletes_of predicate) schema.effects

-- the literal says that an atom of the predicate is true
abbrev pub needs : ℕ → Literal → Bool
needs predicate (Holds positive other places) = positive && nat_eq predicate other
needs predicate (Equal positive left right) = false

-- the effect deletes atoms of a predicate of the candidate, of which one must be true where the row adds
abbrev pub is_own_delete : Candidate → Schema → EffectRow → EffectRow → Bool
is_own_delete candidate schema row delete =
    not delete.adds && has_predicate candidate delete.predicate
    && (list_any (needs delete.predicate) schema.condition || list_any (needs delete.predicate) row.condition)

-- Some effect does so, at the add at the place; or there is no such add.
abbrev pub may_be_balanced : Normal → Candidate → AddPlace → Bool
may_be_balanced task candidate place =
    option_map_or (λ schema. option_map_or (λ row. list_any (is_own_delete candidate schema row) schema.effects) (slice_get schema.effects place.effect) true) (slice_get task.schemas place.schema) true

-- ---- what of the candidate matters beside a schema

-- the literal is of the predicate
abbrev pub is_on : ℕ → Literal → Bool
is_on predicate (Holds positive other places) = nat_eq predicate other
is_on predicate (Equal positive left right) = false

-- the effect or its condition has an atom of the predicate
abbrev pub row_mentions : ℕ → EffectRow → Bool
row_mentions predicate row = nat_eq predicate row.predicate || list_any (is_on predicate) row.condition

abbrev pub mentions : Schema → ℕ → Bool
mentions schema predicate = list_any (is_on predicate) schema.condition || list_any (row_mentions predicate) schema.effects

-- the first part, which gives the parameters their names, and those of the others whose predicates the schema mentions
abbrev pub near_parts : Schema → List Part → List Part
near_parts schema [] = []
near_parts schema (first ∷ more) = first ∷ filter (λ part. mentions schema part.predicate) more

abbrev pub near_schema : Candidate → Schema → Candidate
near_schema candidate schema = record { parameters = candidate.parameters; parts = near_parts schema candidate.parts }

-- with one part more, the one stands for the other at the add
abbrev pub StandsFor : Normal → AddPlace → Candidate → Candidate → Type 0
StandsFor task place near candidate = (part : Part) → balances_add task place (with_part task near part) ≡ balances_add task place (with_part task candidate part)
