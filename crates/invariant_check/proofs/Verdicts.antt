-- A candidate has the verdict that it is accepted exactly where it is light and balanced.
use Rattle.std.proofs.Common.{◌≡◌, ℕ, ◌+◌, Bool, true, false, not, ◌&&◌, ◌||◌, cond, List, [], ◌∷◌, length, refl, sym, ap, ◌∙◌}
use Rattle.std.specs.Prelude.{nat_eq, Option, Some, None, if◌then◌else◌}
use Rattle.std.specs.List.{list_all, list_any, position_from}
use Rattle.std.specs.Option.{option_map_or}
use Rattle.normal_task.specs.declared.task.EffectRow.{EffectRow}
use Rattle.normal_task.specs.declared.task.Normal.{Normal}
use Rattle.normal_task.specs.declared.task.Schema.{Schema}
use Rattle.normal_task.proofs.Anys.{all-not, all-same}
use Rattle.contradictions.specs.declared.types.Candidate.{Candidate}
use Rattle.contradictions.specs.declared.types.Part.{Part}
use Rattle.invariant_check.specs.declared.types.AddPlace.{AddPlace}
use Rattle.invariant_check.specs.declared.types.Verdict.TheVariants.{Dropped, Unbalanced}
use Rattle.invariant_check.specs.Accepted.{is_light, is_balanced_at, is_balanced, is_accepted}
use Rattle.invariant_check.specs.Repairs.{is_unbalanced_add, first_unbalanced, repairs_at, verdict_by, verdict, is_accepted_verdict}

is_none : {X : Type 0} → Option X → Bool
is_none None = true
is_none (Some x) = false

module _ (task : Normal) (candidate : Candidate) where
  row_passes : Schema → EffectRow → Bool
  row_passes schema row = not row.adds || list_all (λ (part : Part). not (nat_eq part.predicate row.predicate) || is_balanced_at task candidate schema part row) candidate.parts

  closed : (schema : Schema) (row : EffectRow) → row_passes schema row ≡ not (is_unbalanced_add task candidate schema row)
  unfolding row_passes
  closed schema row =
      ap (λ b. not row.adds || b) (all-same (λ (part : Part). not (nat_eq part.predicate row.predicate) || is_balanced_at task candidate schema part row) (λ (part : Part). not (nat_eq part.predicate row.predicate && not (is_balanced_at task candidate schema part row)))
      (λ part. implied (nat_eq part.predicate row.predicate) (is_balanced_at task candidate schema part row)) candidate.parts
      ∙ all-not (λ (part : Part). nat_eq part.predicate row.predicate && not (is_balanced_at task candidate schema part row)) candidate.parts)
      ∙ not-both row.adds (list_any (λ (part : Part). nat_eq part.predicate row.predicate && not (is_balanced_at task candidate schema part row)) candidate.parts)
    where
      implied : (a b : Bool) → (not a || b) ≡ not (a && not b)
      implied true true = refl
      implied true false = refl
      implied false b = refl

      not-both : (a b : Bool) → (not a || not b) ≡ not (a && b)
      not-both true b = refl
      not-both false b = refl

  no-rows : (schema : Schema) (place : ℕ) (rows : List EffectRow) → is_none (position_from (is_unbalanced_add task candidate schema) place rows) ≡ list_all (row_passes schema) rows
  unfolding is_none
  no-rows schema place [] = refl
  no-rows schema place (row ∷ rows) = by (is_unbalanced_add task candidate schema row) (closed schema row) (no-rows schema (place + 1) rows)
    where
      by : (b : Bool) → row_passes schema row ≡ not b → is_none (position_from (is_unbalanced_add task candidate schema) (place + 1) rows) ≡ list_all (row_passes schema) rows →
          is_none (cond b (Some place) (position_from (is_unbalanced_add task candidate schema) (place + 1) rows)) ≡ (row_passes schema row && list_all (row_passes schema) rows)
      by true is rest = sym (ap (λ p. p && list_all (row_passes schema) rows) is)
      by false is rest = rest ∙ sym (ap (λ p. p && list_all (row_passes schema) rows) is)

  no-adds : (number : ℕ) (schemas : List Schema) → is_none (first_unbalanced task candidate number schemas) ≡ list_all (λ schema. list_all (row_passes schema) schema.effects) schemas
  unfolding is_none
  no-adds number [] = refl
  no-adds number (schema ∷ schemas) =
      both (position_from (is_unbalanced_add task candidate schema) 0 schema.effects) (first_unbalanced task candidate (number + 1) schemas)
      ∙ ap (λ b. b && is_none (first_unbalanced task candidate (number + 1) schemas)) (no-rows schema 0 schema.effects)
      ∙ ap (λ b. list_all (row_passes schema) schema.effects && b) (no-adds (number + 1) schemas)
    where
      both : (effect : Option ℕ) (later : Option AddPlace) → is_none (option_map_or (λ e. Some (record { schema = number; effect = e })) effect later) ≡ (is_none effect && is_none later)
      both None later = refl
      both (Some effect) later = refl

  by-place : (place : Option AddPlace) → is_accepted_verdict (verdict_by task candidate place) ≡ is_none place
  unfolding is_none
  by-place None = refl
  by-place (Some place) = neither (nat_eq (length (repairs_at task candidate place)) 0)
    where
      neither : (b : Bool) → is_accepted_verdict (if b then Dropped else Unbalanced place) ≡ false
      neither true = refl
      neither false = refl

  pub accepted_exactly : is_accepted_verdict (verdict task candidate) ≡ is_accepted task candidate
  unfolding row_passes
  accepted_exactly = by (is_light task candidate)
    where
      by : (b : Bool) → is_accepted_verdict (if b then verdict_by task candidate (first_unbalanced task candidate 0 task.schemas) else Dropped) ≡ (b && is_balanced task candidate)
      by true = by-place (first_unbalanced task candidate 0 task.schemas) ∙ no-adds 0 task.schemas
      by false = refl
