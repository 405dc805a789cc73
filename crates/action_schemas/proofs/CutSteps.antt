-- What a condition is cut into, one case for each variant, and what a loop over members has made.
use Rattle.std.proofs.Common.{append-nil, ◌≡◌, ℕ, ◌+◌, Bool, true, false, not, List, [], ◌∷◌, ◌++◌, length, refl, ap, ◌∙◌, sym}
use Rattle.std.specs.Prelude.{if◌then◌else◌}
use Rattle.pddl_lexer.specs.declared.position.At.{At}
use Rattle.pddl_syntax.specs.declared.types.Condition.{Condition, Condition-F}
use Rattle.pddl_syntax.specs.declared.types.Condition.TheVariants as conditions
use Rattle.pddl_syntax.specs.declared.types.Domain.{Domain}
use Rattle.pddl_syntax.specs.declared.types.Problem.{Problem}
use Rattle.pddl_syntax.specs.declared.types.Typed.{Typed}
use Rattle.pddl_syntax.proofs.ConditionCases as c
use Rattle.action_schemas.specs.declared.conditions.Asked.{Asked}
use Rattle.normal_task.specs.declared.parts.Part.{Part}
use Rattle.normal_task.specs.declared.parts.Fresh.{Fresh}
use Rattle.normal_task.specs.Parts.{Scope, Made, paired, Known, known, known_step, cut_step, parts}
use Rattle.action_schemas.specs.Cuts.{combined, quantified}
use Rattle.normal_rows.proofs.LeftToRight.{paired-last}
use Rattle.normal_rows.proofs.TurnSteps.{turn-more, pairs-more}

-- ---- members

-- one round of a loop over members
pub member-more : (every : Bool) (around : ℕ) (done after : List (ℕ → Made Part)) (make : ℕ → Made Part) (grows : after ≡ done ++ make ∷ []) (next : ℕ)
    (items : List Part) (fresh : List Fresh) (are : (items ≡ (combined every around done next).items) × (fresh ≡ (combined every around done next).fresh))
    (start : ℕ) (starts : start ≡ next + length fresh) (made_items : List Part) (made_fresh : List Fresh) (is_made : (made_items ≡ (make start).items) × (made_fresh ≡ (make start).fresh))
    (items' : List Part) (fresh' : List Fresh) → items' ≡ (if every then paired around items made_items else items ++ made_items) → fresh' ≡ fresh ++ made_fresh →
    (items' ≡ (combined every around after next).items) × (fresh' ≡ (combined every around after next).fresh)
member-more true around done after make grows next items fresh are start starts made_items made_fresh is_made items' fresh' grown fresh_grown =
    pairs-more around done after make grows next items fresh are start starts made_items made_fresh is_made items' fresh' grown fresh_grown
member-more false around done after make grows next items fresh are start starts made_items made_fresh is_made items' fresh' grown fresh_grown =
    turn-more done after make grows next items fresh are start starts made_items made_fresh is_made items' fresh' grown fresh_grown

-- two members
module _ (around : ℕ) (one other : ℕ → Made Part) (next : ℕ)
    (first_items : List Part) (first_fresh : List Fresh) (first_is : (first_items ≡ (one next).items) × (first_fresh ≡ (one next).fresh))
    (start : ℕ) (starts : start ≡ next + length first_fresh) (second_items : List Part) (second_fresh : List Fresh) (second_is : (second_items ≡ (other start).items) × (second_fresh ≡ (other start).fresh)) where
  at : start ≡ next + length (one next).fresh
  at = starts ∙ ap (λ (l : List Fresh). next + length l) first_is.1

  both_fresh : (fresh : List Fresh) → fresh ≡ first_fresh ++ second_fresh → fresh ≡ (one next).fresh ++ ((other (next + length (one next).fresh)).fresh ++ [])
  both_fresh fresh grown =
      grown ∙ ap (λ (l : List Fresh). l ++ second_fresh) first_is.1
      ∙ ap (λ (l : List Fresh). (one next).fresh ++ l) (second_is.1 ∙ ap (λ (n : ℕ). (other n).fresh) at ∙ sym (append-nil (other (next + length (one next).fresh)).fresh))

  pub two-are : (every : Bool) (items : List Part) (fresh : List Fresh) → items ≡ (if every then paired around first_items second_items else first_items ++ second_items) → fresh ≡ first_fresh ++ second_fresh →
      (items ≡ (combined every around (one ∷ other ∷ []) next).items) × (fresh ≡ (combined every around (one ∷ other ∷ []) next).fresh)
  two-are true items fresh are grown = (
    are ∙ ap (λ (l : List Part). paired around l second_items) first_is.0
        ∙ ap (paired around (one next).items) (second_is.0 ∙ ap (λ (n : ℕ). (other n).items) at ∙ sym (paired-last around (other (next + length (one next).fresh)).items)),
    both_fresh fresh grown,
  )
  two-are false items fresh are grown = (
    are ∙ ap (λ (l : List Part). l ++ second_items) first_is.0
        ∙ ap (λ (l : List Part). (one next).items ++ l) (second_is.0 ∙ ap (λ (n : ℕ). (other n).items) at ∙ sym (append-nil (other (next + length (one next).fresh)).items)),
    both_fresh fresh grown,
  )

-- ---- conditions

module _ (domain : Domain) (problem : Problem) (positive : Bool) (scope : Scope) (around next : ℕ) where
  abbrev cut_of : Condition → Made Part
  cut_of condition = parts domain problem condition positive scope around next

  parts-Imply : (premise conclusion : Condition) (at : At) →
      combined (not positive) around (parts domain problem premise (not positive) scope around ∷ parts domain problem conclusion positive scope around ∷ []) next ≡ cut_of (conditions.Imply premise conclusion at)
  parts-Imply premise conclusion at = sym (ap (λ (k : Known). k.cut positive scope around next) (c.fold-Imply Known (known_step domain problem) premise conclusion at) ∙ by positive)
    where
      by : (b : Bool) → cut_step domain problem (Condition-F.Imply (known domain problem premise) (known domain problem conclusion) at) b scope around next
          ≡ combined (not b) around (parts domain problem premise (not b) scope around ∷ parts domain problem conclusion b scope around ∷ []) next
      by true = refl
      by false = refl

  module _ (condition : Condition) where
    pub imply-is : (premise conclusion given other : Condition) (at : At) → condition ≡ conditions.Imply premise conclusion at → given ≡ premise → other ≡ conclusion →
        combined (not positive) around (parts domain problem given (not positive) scope around ∷ parts domain problem other positive scope around ∷ []) next ≡ cut_of condition
    imply-is premise conclusion given other at is same same_too =
        ap (λ (x : Condition). combined (not positive) around (parts domain problem x (not positive) scope around ∷ parts domain problem other positive scope around ∷ []) next) same
        ∙ ap (λ (x : Condition). combined (not positive) around (parts domain problem premise (not positive) scope around ∷ parts domain problem x positive scope around ∷ []) next) same_too
        ∙ parts-Imply premise conclusion at ∙ ap (λ (x : Condition). cut_of x) (sym is)

    module _ (variables listed : List Typed) (inside given : Condition) (at : At) (same_variables : listed ≡ variables) (same_inside : given ≡ inside) (asked : Asked) where
      abbrev quantifies : List Typed → Condition → Asked → Made Part
      quantifies v x a = quantified domain problem v (known domain problem x) a.some a.positive scope around next

      same : (asks : Asked) → asked ≡ asks → quantifies listed given asked ≡ quantifies variables inside asks
      same asks is_asked =
          ap (λ (v : List Typed). quantifies v given asked) same_variables ∙ ap (λ (x : Condition). quantifies variables x asked) same_inside ∙ ap (quantifies variables inside) is_asked

      pub forall-is : condition ≡ conditions.Forall variables inside at → asked ≡ record { some = not positive; positive = false } → quantifies listed given asked ≡ cut_of condition
      forall-is is is_asked =
          same (record { some = not positive; positive = false }) is_asked ∙ by positive
          ∙ sym (ap (λ (x : Condition). cut_of x) is ∙ ap (λ (k : Known). k.cut positive scope around next) (c.fold-Forall Known (known_step domain problem) variables inside at))
        where
          by : (b : Bool) → quantifies variables inside (record { some = not b; positive = false }) ≡ cut_step domain problem (Condition-F.Forall variables (known domain problem inside) at) b scope around next
          by true = refl
          by false = refl

      pub exists-is : condition ≡ conditions.Exists variables inside at → asked ≡ record { some = positive; positive = true } → quantifies listed given asked ≡ cut_of condition
      exists-is is is_asked =
          same (record { some = positive; positive = true }) is_asked ∙ by positive
          ∙ sym (ap (λ (x : Condition). cut_of x) is ∙ ap (λ (k : Known). k.cut positive scope around next) (c.fold-Exists Known (known_step domain problem) variables inside at))
        where
          by : (b : Bool) → quantifies variables inside (record { some = b; positive = true }) ≡ cut_step domain problem (Condition-F.Exists variables (known domain problem inside) at) b scope around next
          by true = refl
          by false = refl
