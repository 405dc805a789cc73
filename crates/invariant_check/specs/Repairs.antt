-- The repairs of a candidate that isn't balanced, and its verdict (Helmert 2009, section 5).
use Rattle.std.specs.Prelude.{ℕ, ◌+◌, Bool, true, false, not, ◌&&◌, nat_eq, List, [], ◌∷◌, length, filter, Option, Some, None, slice_get, if◌then◌else◌}
use Rattle.std.specs.List.{list_any, position_from}
use Rattle.std.specs.Option.{option_map_or}
use Rattle.normal_task.specs.declared.task.EffectRow.{EffectRow}
use Rattle.normal_task.specs.declared.task.Normal.{Normal}
use Rattle.normal_task.specs.declared.task.Schema.{Schema}
use Rattle.contradictions.specs.declared.types.Candidate.{Candidate}
use Rattle.invariant_check.specs.declared.types.AddPlace.{AddPlace}
use Rattle.invariant_check.specs.declared.types.Verdict.{Verdict}
use Rattle.invariant_check.specs.declared.types.Verdict.TheVariants.{Accepted, Dropped, Unbalanced}
use Rattle.invariant_check.specs.Accepted.{is_light, is_balanced_at, has_balance}
use Rattle.invariant_check.specs.Extensions.{extensions}

-- ---- repairs

-- the effect is an add on a predicate of the candidate, and isn't balanced
abbrev pub is_unbalanced_add : Normal → Candidate → Schema → EffectRow → Bool
is_unbalanced_add task candidate schema row =
    row.adds && list_any (λ part. nat_eq part.predicate row.predicate && not (is_balanced_at task candidate schema part row)) candidate.parts

-- the first such effect of the schemas, by schema and then by effect row; the schemas are numbered from this number on
abbrev pub first_unbalanced : Normal → Candidate → ℕ → List Schema → Option AddPlace
first_unbalanced task candidate number [] = None
first_unbalanced task candidate number (schema ∷ more) =
    option_map_or (λ effect. Some (record { schema = number; effect = effect })) (position_from (is_unbalanced_add task candidate schema) 0 schema.effects)
    (first_unbalanced task candidate (number + 1) more)

-- some delete effect of the candidate's predicates balances the row's add
abbrev pub balances_row : Normal → Candidate → Schema → EffectRow → Bool
balances_row task candidate schema row =
    list_any (λ part. nat_eq part.predicate row.predicate && has_balance task candidate schema part row) candidate.parts

abbrev pub balances_add : Normal → AddPlace → Candidate → Bool
balances_add task place candidate =
    option_map_or (λ schema. option_map_or (balances_row task candidate schema) (slice_get schema.effects place.effect) false) (slice_get task.schemas place.schema) false

-- the candidates with one part more under which some delete effect balances the add
abbrev pub repairs_at : Normal → Candidate → AddPlace → List Candidate
repairs_at task candidate place = filter (balances_add task place) (extensions task candidate)

-- ---- the verdict

-- accepted where each add is balanced; else the first that isn't decides, by whether some candidate repairs it
abbrev pub verdict_by : Normal → Candidate → Option AddPlace → Verdict
verdict_by task candidate None = Accepted
verdict_by task candidate (Some place) = if nat_eq (length (repairs_at task candidate place)) 0 then Dropped else Unbalanced place

-- a candidate that isn't light is dropped
abbrev pub verdict : Normal → Candidate → Verdict
verdict task candidate = if is_light task candidate then verdict_by task candidate (first_unbalanced task candidate 0 task.schemas) else Dropped

abbrev pub is_accepted_verdict : Verdict → Bool
is_accepted_verdict Accepted = true
is_accepted_verdict Dropped = false
is_accepted_verdict (Unbalanced place) = false
