-- The schemas of an action.
use Rattle.std.proofs.Common.{◌≡◌, ℕ, ◌+◌, List, [], true, length, ap, ◌∙◌}
use Rattle.pddl_syntax.specs.declared.types.Action.{Action}
use Rattle.pddl_syntax.specs.declared.types.Domain.{Domain}
use Rattle.pddl_syntax.specs.declared.types.Problem.{Problem}
use Rattle.normal_task.specs.declared.task.EffectRow.{EffectRow}
use Rattle.action_schemas.specs.SchemaRows.{schemas_of_parts, schemas_in_scope}
use Rattle.normal_rows.proofs.MadeSame.{made-same}
use Rattle.normal_task.specs.Normalised.{rows_of}
use Rattle.normal_task.specs.declared.parts.Part.{Part}
use Rattle.normal_task.specs.declared.parts.Fresh.{Fresh}
use Rattle.normal_task.specs.Parts.{Scope, Made, parts}

module _ (domain : Domain) (problem : Problem) where
  -- the schemas of an action, from what its precondition and its effect were cut into
  pub schemas-in : (action : Action) (scope : Scope) (next around : ℕ) → around ≡ length action.parameters → (part_items : List Part) (part_fresh : List Fresh) →
      (part_items ≡ (parts domain problem action.precondition true scope around next).items) × (part_fresh ≡ (parts domain problem action.precondition true scope around next).fresh) →
      (start : ℕ) → start ≡ next + length part_fresh → (row_items : List EffectRow) (row_fresh : List Fresh) →
      (row_items ≡ (rows_of domain problem action.effect [] scope around start).items) × (row_fresh ≡ (rows_of domain problem action.effect [] scope around start).fresh) →
      schemas_of_parts domain problem action scope (record { items = part_items; fresh = part_fresh }) (record { items = row_items; fresh = row_fresh }) ≡ schemas_in_scope domain problem action scope next
  schemas-in action scope next around around_is part_items part_fresh part_made start starts row_items row_fresh row_made =
      let wanted : ℕ → Made Part = λ n. parts domain problem action.precondition true scope n next in
      let effects : ℕ → ℕ → Made EffectRow = λ n s. rows_of domain problem action.effect [] scope n s in
      let parts_same = made-same (wanted around) part_items part_fresh part_made ∙ ap wanted around_is in
      let start_is = starts ∙ ap (λ (l : List Fresh). next + length l) (part_made.1 ∙ ap (λ (n : ℕ). (wanted n).fresh) around_is) in
      let rows_same = made-same (effects around start) row_items row_fresh row_made ∙ ap (λ (n : ℕ). effects n start) around_is ∙ ap (effects (length action.parameters)) start_is in
      ap (λ (m : Made Part). schemas_of_parts domain problem action scope m (record { items = row_items; fresh = row_fresh })) parts_same
      ∙ ap (schemas_of_parts domain problem action scope (wanted (length action.parameters))) rows_same
