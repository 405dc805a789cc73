-- The parts of the new predicates that effects need fit.
use Rattle.std.proofs.Common.{◌≡◌, ℕ, ◌+◌, Bool, true, false, ◌&&◌, List, [], ◌∷◌, ◌++◌, map, length, refl, subst, arith}
use Rattle.std.specs.List.{flat_map}
use Rattle.std.proofs.lemmas.Bool.{and_parts, false≢true}
use Rattle.pddl_lexer.specs.declared.position.At.{At}
use Rattle.pddl_syntax.specs.declared.types.Atom.{Atom}
use Rattle.pddl_syntax.specs.declared.types.Domain.{Domain}
use Rattle.pddl_syntax.specs.declared.types.Effect.{Effect}
use Rattle.pddl_syntax.specs.declared.types.Problem.{Problem}
use Rattle.pddl_syntax.specs.declared.types.Typed.{Typed}
use Rattle.pddl_syntax.specs.Words.{Name}
use Rattle.pddl_syntax.proofs.ConditionCases.{Each}
use Rattle.fault_positions.specs.Mentions.{Mention, in_condition, in_effect, effect_step}
use Rattle.fault_positions.specs.Scopes as scopes
use Rattle.type_checker.proofs.NoFaults.{left_empty, right_empty}
use Rattle.normal_task.specs.Parts.{Scope, scope_inside, Part, Made, in_turn, parts}
use Rattle.normal_task.specs.Normalised.{parameter_scope, Rows, written, row_step, rows_of}
use Rattle.normal_task.proofs.Alls.{all-left, all-right}
use Rattle.normal_task.proofs.Mentioned.{is_known_mention, AreKnown}
use Rattle.normal_task.proofs.Scopes.{InScope, wider, inside-in_scope}
use Rattle.normal_task.proofs.Fits.{all_of-fits, condition-fits, fresh_fit, fresh-both}
use Rattle.normal_task.proofs.Bound.{is_in, in-inside, free-bound}
use Rattle.normal_task.proofs.EffectsMean.{declared, turns, RequiredFits, fits-wider, fits-here, fits-also}
use Rattle.type_checker.proofs.EffectFolds.{by_folds}

module _ (domain : Domain) (problem : Problem) where
  abbrev pub AllInScope : List Name → Scope → ℕ → Type 0
  AllInScope names scope around = (name : Name) → is_in names name ≡ true → InScope scope around name

  -- parameters are in scope
  pub parameters-in_scope : (variables : List Typed) → AllInScope (scopes.inside_of variables []) (parameter_scope domain problem variables) (length variables)
  parameters-in_scope variables name inside =
      subst (λ (n : ℕ). InScope (parameter_scope domain problem variables) n name) (let same : 0 + length variables ≡ length variables = omega arith in same)
      (inside-in_scope domain problem variables 0 [] name (λ unlisted. absurd (false≢true (in-inside variables [] name inside unlisted))))

  abbrev EffectFits : Rows domain problem → Unit {0} → (scopes.Scope → List At) → List Mention → Type 0
  EffectFits rows unused unbound mentions =
      AreKnown domain problem mentions → (required : List (ℕ → ℕ → Made Part)) (names : List Name) (scope : Scope) (around : ℕ) → unbound names ≡ [] → AllInScope names scope around → RequiredFits domain problem around required →
      (next : ℕ) → fresh_fit (declared domain problem) next (rows required scope around next).fresh ≡ true

  abbrev Fit : Effect → Type 0
  Fit effect = EffectFits (rows_of domain problem effect) tt (scopes.in_effect effect) (in_effect effect)

  written-fits : (this : Bool) (atom : Atom) (required : List (ℕ → ℕ → Made Part)) (scope : Scope) (around : ℕ) → RequiredFits domain problem around required → (next : ℕ) →
      fresh_fit (declared domain problem) next (written domain problem this atom required scope around next).fresh ≡ true
  written-fits this atom required scope around fit next = (all_of-fits (declared domain problem) around (map (λ cut. cut around) required) (fits-here domain problem around required fit) next).fresh

  members-fit : (members : List Effect) → Each Fit members → AreKnown domain problem (flat_map (λ mentions. mentions) (map in_effect members)) → (required : List (ℕ → ℕ → Made Part)) (names : List Name) (scope : Scope) (around : ℕ) →
      flat_map (λ member. member names) (map scopes.in_effect members) ≡ [] → AllInScope names scope around → RequiredFits domain problem around required → (next : ℕ) →
      fresh_fit (declared domain problem) next (in_turn (turns domain problem required scope around members) next).fresh ≡ true
  members-fit [] each mentioned required names scope around unbound in_scope fit next = refl
  members-fit (member ∷ members) each mentioned required names scope around unbound in_scope fit next =
      let first = rows_of domain problem member required scope around next in
      fresh-both (declared domain problem) next first.fresh (in_turn (turns domain problem required scope around members) (next + length first.fresh)).fresh
      (each.0 (all-left (is_known_mention domain problem) (in_effect member) (flat_map (λ mentions. mentions) (map in_effect members)) mentioned) required names scope around
      (left_empty (scopes.in_effect member names) (flat_map (λ member. member names) (map scopes.in_effect members)) unbound) in_scope fit next)
      (members-fit members each.1 (all-right (is_known_mention domain problem) (in_effect member) (flat_map (λ mentions. mentions) (map in_effect members)) mentioned) required names scope around
      (right_empty (scopes.in_effect member names) (flat_map (λ member. member names) (map scopes.in_effect members)) unbound) in_scope fit (next + length first.fresh))

  -- the parts of the new predicates of an effect fit
  pub effect-fits : (effect : Effect) → Fit effect
  effect-fits = by_folds (Rows domain problem) (Unit {0}) (scopes.Scope → List At) (List Mention) (row_step domain problem) (λ layer. tt) scopes.effect_step effect_step EffectFits record {
    at_nothing = λ at mentioned required names scope around unbound in_scope fit next. refl;
    at_add = λ atom mentioned required names scope around unbound in_scope fit next. written-fits true atom required scope around fit next;
    at_delete = λ atom mentioned required names scope around unbound in_scope fit next. written-fits false atom required scope around fit next;
    at_and = λ members at. members-fit members;
    at_when = λ condition inside at held mentioned required names scope around unbound in_scope fit next.
        let here = left_empty (scopes.in_condition condition names) (scopes.in_effect inside names) unbound in
        held (all-right (is_known_mention domain problem) (in_condition condition) (in_effect inside) mentioned) (required ++ (λ around. parts domain problem condition true scope around) ∷ []) names scope around
        (right_empty (scopes.in_condition condition names) (scopes.in_effect inside names) unbound) in_scope
        (fits-also domain problem around required (λ around. parts domain problem condition true scope around) fit
        (λ more least. condition-fits domain problem condition (all-left (is_known_mention domain problem) (in_condition condition) (in_effect inside) mentioned) true scope more
        (λ name free. wider scope around more name least (in_scope name (free-bound domain problem condition names here name free))))) next;
    at_forall = λ variables inside at held mentioned required names scope around unbound in_scope fit next.
        held (and_parts (true && true) _ mentioned).1 required (scopes.inside_of variables names) (scope_inside domain problem variables around scope) (around + length variables) unbound
        (λ name inside_it. inside-in_scope domain problem variables around scope name (λ unlisted. in_scope name (in-inside variables names name inside_it unlisted)))
        (fits-wider domain problem around (around + length variables) (omega arith) required fit) next;
    at_increase = λ term cost at mentioned required names scope around unbound in_scope fit next. refl;
  }
