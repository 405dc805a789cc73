-- Induction over a condition, for what is shown of what it is cut into, where something is told of what it mentions and of the variables in scope.
use Rattle.std.proofs.Common.{◌≡◌, ℕ, Bool, true, false, not, ◌&&◌, ◌||◌, List, [], ◌∷◌, ◌++◌, map}
use Rattle.std.specs.Prelude.{if◌then◌else◌}
use Rattle.std.specs.List.{list_any, flat_map}
use Rattle.pddl_lexer.specs.declared.position.At.{At}
use Rattle.pddl_syntax.specs.declared.types.Atom.{Atom}
use Rattle.pddl_syntax.specs.declared.types.Condition.{Condition, Condition-F}
use Rattle.pddl_syntax.specs.declared.types.Domain.{Domain}
use Rattle.pddl_syntax.specs.declared.types.Problem.{Problem}
use Rattle.pddl_syntax.specs.declared.types.Term.{Term}
use Rattle.pddl_syntax.specs.declared.types.Typed.{Typed}
use Rattle.pddl_syntax.specs.Words.{Name}
use Rattle.pddl_syntax.proofs.ConditionCases.{Each}
use Rattle.fault_positions.specs.Mentions.{Mention, Variables, Asked, Compared, in_condition, condition_step}
use Rattle.normal_task.specs.Parts.{Scope, is_listed, Part, Made, in_turn, all_of, Cut, Known, exists_inside, none_inside, known_step, known}
use Rattle.normal_task.proofs.ThreeFolds.{by_folds}

-- the variable is free around the inside, which has these variables
abbrev pub asked_in : List Typed → Known → Name → Bool
asked_in variables inside name = not (is_listed variables name) && inside.is_free name

pub unlisted-asked : (variables : List Typed) (inside : Known) (name : Name) → inside.is_free name ≡ true → is_listed variables name ≡ false → asked_in variables inside name ≡ true
unlisted-asked variables inside name free unlisted = cc (free, unlisted)

abbrev pub cuts : Bool → Scope → ℕ → List Known → List (ℕ → Made Part)
cuts positive scope around list = map (λ member. member.cut positive scope around) list

module _ (domain : Domain) (problem : Problem) (Told : List Mention → Type 0) (Within : (Name → Bool) → Scope → ℕ → Type 0) (Shown : ℕ → ℕ → Made Part → Type 0) where
  -- what is made in so many variables, wherever its new predicates begin
  abbrev From : ℕ → (ℕ → Made Part) → Type 0
  From around make = (next : ℕ) → Shown around next (make next)

  abbrev CutShown : Known → Unit {0} → List Mention → Type 0
  CutShown k unused mentions = Told mentions → (positive : Bool) (scope : Scope) (around : ℕ) → Within k.is_free scope around → From around (k.cut positive scope around)

  abbrev pub CutOf : Condition → Type 0
  CutOf condition = CutShown (known domain problem condition) tt (in_condition condition)

  -- what is shown of the inside is shown of the quantified condition
  abbrev Quantified : (List Typed → Known → Cut) → Type 0
  Quantified around_it =
      (variables : List Typed) (inside : Known) (positive : Bool) (scope : Scope) (around : ℕ) → ((scope : Scope) (around : ℕ) → Within inside.is_free scope around → From around (inside.cut positive scope around)) →
      Within (asked_in variables inside) scope around → From around (around_it variables inside positive scope around)

  pub record Laws : Type 0 where
    pub told_left : (one other : List Mention) → Told (one ++ other) → Told one
    pub told_right : (one other : List Mention) → Told (one ++ other) → Told other
    pub within_left : (one other : Name → Bool) (scope : Scope) (around : ℕ) → Within (λ name. one name || other name) scope around → Within one scope around
    pub within_right : (one other : Name → Bool) (scope : Scope) (around : ℕ) → Within (λ name. one name || other name) scope around → Within other scope around
    pub at_atom : (atom : Atom) → CutShown (known_step domain problem (Condition-F.Atom atom)) tt (Asked atom ∷ [])
    pub at_equal : (left right : Term) (at : At) → CutShown (known_step domain problem (Condition-F.Equal left right at)) tt (Compared left right ∷ [])
    pub in_turn_shown : (around : ℕ) (makes : List (ℕ → Made Part)) → Each (From around) makes → From around (in_turn makes)
    pub all_of_shown : (around : ℕ) (makes : List (ℕ → Made Part)) → Each (From around) makes → From around (all_of around makes)
    pub exists_shown : Quantified (exists_inside domain problem)
    pub none_shown : Quantified (none_inside domain problem)

  module _ (laws : Laws) where
    pub members-shown : (positive : Bool) (scope : Scope) (around : ℕ) (members : List Condition) → Each CutOf members → Told (flat_map (λ mentions. mentions) (map in_condition members)) →
        Within (λ name. list_any (λ (member : Known). member.is_free name) (map (known domain problem) members)) scope around → Each (From around) (cuts positive scope around (map (known domain problem) members))
    members-shown positive scope around [] each told within = tt
    members-shown positive scope around (member ∷ members) each told within =
        let first = in_condition member in
        let more = flat_map (λ mentions. mentions) (map in_condition members) in
        let here = (known domain problem member).is_free in
        let behind : Name → Bool = λ name. list_any (λ (member : Known). member.is_free name) (map (known domain problem) members) in (
          each.0 (laws.told_left first more told) positive scope around (laws.within_left here behind scope around within),
          members-shown positive scope around members each.1 (laws.told_right first more told) (laws.within_right here behind scope around within),
        )

    chosen : (positive : Bool) (around next : ℕ) (one other : Made Part) → Shown around next one → Shown around next other → Shown around next (if positive then one else other)
    chosen true around next one other is is_other = is
    chosen false around next one other is is_other = is_other

    pub cuts-shown : (condition : Condition) → CutOf condition
    cuts-shown = by_folds Known (Unit {0}) (List Mention) (known_step domain problem) (λ layer. tt) condition_step CutShown record {
      at_true = λ at told positive scope around within next. chosen positive around next _ _ (laws.all_of_shown around [] tt next) (laws.in_turn_shown around [] tt next);
      at_atom = laws.at_atom;
      at_equal = laws.at_equal;
      at_not = λ inside at held told positive. held told (not positive);
      at_and = λ members at held told positive scope around within next.
          chosen positive around next _ _
          (laws.all_of_shown around (cuts true scope around (map (known domain problem) members)) (members-shown true scope around members held told within) next)
          (laws.in_turn_shown around (cuts false scope around (map (known domain problem) members)) (members-shown false scope around members held told within) next);
      at_or = λ members at held told positive scope around within next.
          chosen positive around next _ _
          (laws.in_turn_shown around (cuts true scope around (map (known domain problem) members)) (members-shown true scope around members held told within) next)
          (laws.all_of_shown around (cuts false scope around (map (known domain problem) members)) (members-shown false scope around members held told within) next);
      at_imply = λ premise conclusion at held later told positive scope around within next.
          let one = known domain problem premise in
          let other = known domain problem conclusion in
          let left = λ (p : Bool). held (laws.told_left (in_condition premise) (in_condition conclusion) told) p scope around (laws.within_left one.is_free other.is_free scope around within) in
          let right = λ (p : Bool). later (laws.told_right (in_condition premise) (in_condition conclusion) told) p scope around (laws.within_right one.is_free other.is_free scope around within) in
          chosen positive around next _ _
          (laws.in_turn_shown around (one.cut false scope around ∷ other.cut true scope around ∷ []) (left false, (right true, tt)) next)
          (laws.all_of_shown around (one.cut true scope around ∷ other.cut false scope around ∷ []) (left true, (right false, tt)) next);
      at_forall = λ variables inside at held told positive scope around within next.
          let inner = held (laws.told_right (Variables variables ∷ []) (in_condition inside) told) false in
          chosen positive around next _ _
          (laws.none_shown variables (known domain problem inside) false scope around inner within next) (laws.exists_shown variables (known domain problem inside) false scope around inner within next);
      at_exists = λ variables inside at held told positive scope around within next.
          let inner = held (laws.told_right (Variables variables ∷ []) (in_condition inside) told) true in
          chosen positive around next _ _
          (laws.exists_shown variables (known domain problem inside) true scope around inner within next) (laws.none_shown variables (known domain problem inside) true scope around inner within next);
    }
