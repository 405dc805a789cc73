-- The effects that stand in an effect, one case for each variant.
use Rattle.std.proofs.Common.{◌≡◌, ℕ, List, [], ◌∷◌, ◌++◌, true, sym, ap, ◌∙◌}
use Rattle.std.proofs.lemmas.List.{map-append}
use Rattle.pddl_lexer.specs.declared.position.At.{At}
use Rattle.pddl_syntax.specs.declared.types.Condition.{Condition}
use Rattle.pddl_syntax.specs.declared.types.Domain.{Domain}
use Rattle.pddl_syntax.specs.declared.types.Effect.{Effect}
use Rattle.pddl_syntax.specs.declared.types.Effect.TheVariants.{When, Forall}
use Rattle.pddl_syntax.specs.declared.types.Problem.{Problem}
use Rattle.pddl_syntax.specs.declared.types.Typed.{Typed}
use Rattle.pddl_syntax.proofs.EffectCases.{fold-When, fold-Forall}
use Rattle.action_schemas.specs.declared.effects.Required.{Required}
use Rattle.action_schemas.specs.Cuts.{cut_of, cuts_of}
use Rattle.normal_task.specs.Normalised.{Rows, row_step, rows_of, for_each}
use Rattle.normal_task.specs.declared.parts.Part.{Part}
use Rattle.normal_task.specs.Parts.{Scope, Made, parts}

-- the conditions that are required, with one more
pub longer-cuts : (domain : Domain) (problem : Problem) (scope : Scope) (condition : Condition) (required longer : List Required) (last : Required) → longer ≡ required ++ last ∷ [] → last.condition.now ≡ condition → last.scope.now ≡ scope →
    cuts_of domain problem longer ≡ cuts_of domain problem required ++ (λ (around : ℕ). parts domain problem condition true scope around) ∷ []
longer-cuts domain problem scope condition required longer last grown same_condition same_scope =
    ap (cuts_of domain problem) grown ∙ map-append (cut_of domain problem) required (last ∷ [])
    ∙ ap (λ (c : Condition). cuts_of domain problem required ++ (λ (around : ℕ). parts domain problem c true last.scope.now around) ∷ []) same_condition
    ∙ ap (λ (s : Scope). cuts_of domain problem required ++ (λ (around : ℕ). parts domain problem condition true s around) ∷ []) same_scope

module _ (domain : Domain) (problem : Problem) (required : List (ℕ → ℕ → Made Part)) (scope : Scope) (around next : ℕ) (inside : Effect) (at : At) where
  pub when-is : (condition : Condition) →
      rows_of domain problem inside (required ++ (λ around. parts domain problem condition true scope around) ∷ []) scope around next ≡ rows_of domain problem (When condition inside at) required scope around next
  when-is condition = sym (ap (λ (r : Rows domain problem). r required scope around next) (fold-When (Rows domain problem) (row_step domain problem) condition inside at))

  pub forall-is : (variables : List Typed) → for_each domain problem variables (rows_of domain problem inside) required scope around next ≡ rows_of domain problem (Forall variables inside at) required scope around next
  forall-is variables = sym (ap (λ (r : Rows domain problem). r required scope around next) (fold-Forall (Rows domain problem) (row_step domain problem) variables inside at))
