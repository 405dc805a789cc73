-- Induction over a condition, and what a fold gives, one case for each variant.
pub use Rattle.lists.proofs.Items.{Each}
use Rattle.std.proofs.Common.{◌≡◌, List, [], ◌∷◌, map, sym, ap, ◌∙◌, subst}
use Rattle.pddl_lexer.specs.declared.position.At.{At}
use Rattle.pddl_syntax.specs.declared.types.Atom as atom_type
use Rattle.pddl_syntax.specs.declared.types.Condition.{Condition, Condition-F, fold-Condition, fold-roll-Condition, ind-Condition, map-Condition}
use Rattle.pddl_syntax.specs.declared.types.Condition.TheVariants.{True, rolls-True, Atom, rolls-Atom, Equal, rolls-Equal, Not, rolls-Not, And, rolls-And, Or, rolls-Or, Imply, rolls-Imply, Forall, rolls-Forall, Exists, rolls-Exists}
use Rattle.pddl_syntax.specs.declared.types.Condition.TheViews.{roll-Condition}
use Rattle.pddl_syntax.specs.declared.types.Term.{Term}
use Rattle.pddl_syntax.specs.declared.types.Typed.{Typed}

-- what an induction over a condition shows
pub record ConditionCases (P : Condition → Type 0) : Type 0 where
  pub at_true : (at : At) → P (True at)
  pub at_atom : (atom : atom_type.Atom) → P (Atom atom)
  pub at_equal : (left right : Term) (at : At) → P (Equal left right at)
  pub at_not : (inside : Condition) (at : At) → P inside → P (Not inside at)
  pub at_and : (members : List Condition) (at : At) → Each P members → P (And members at)
  pub at_or : (members : List Condition) (at : At) → Each P members → P (Or members at)
  pub at_imply : (premise conclusion : Condition) (at : At) → P premise → P conclusion → P (Imply premise conclusion at)
  pub at_forall : (variables : List Typed) (inside : Condition) (at : At) → P inside → P (Forall variables inside at)
  pub at_exists : (variables : List Typed) (inside : Condition) (at : At) → P inside → P (Exists variables inside at)

module _ (P : Condition → Type 0) where
  abbrev Held : Type 0
  Held = (c : Condition) × P c

  each_held : (held : List Held) → Each P (map (λ e. e.0) held)
  each_held [] = tt
  each_held (e ∷ held) = (e.1, each_held held)

  module _ (cases : ConditionCases P) where
    step : (y : Condition-F Held) → P (roll-Condition (map-Condition Held Condition (λ e. e.0) y))
    step (Condition-F.True at) = subst P (sym (rolls-True at)) (cases.at_true at)
    step (Condition-F.Atom atom) = subst P (sym (rolls-Atom atom)) (cases.at_atom atom)
    step (Condition-F.Equal left right at) = subst P (sym (rolls-Equal left right at)) (cases.at_equal left right at)
    step (Condition-F.Not inside at) = subst P (sym (rolls-Not _ at)) (cases.at_not _ at inside.1)
    step (Condition-F.And members at) = subst P (sym (rolls-And _ at)) (cases.at_and _ at (each_held members))
    step (Condition-F.Or members at) = subst P (sym (rolls-Or _ at)) (cases.at_or _ at (each_held members))
    step (Condition-F.Imply premise conclusion at) = subst P (sym (rolls-Imply _ _ at)) (cases.at_imply _ _ at premise.1 conclusion.1)
    step (Condition-F.Forall variables inside at) = subst P (sym (rolls-Forall variables _ at)) (cases.at_forall variables _ at inside.1)
    step (Condition-F.Exists variables inside at) = subst P (sym (rolls-Exists variables _ at)) (cases.at_exists variables _ at inside.1)

    pub condition_by_cases : (c : Condition) → P c
    condition_by_cases = ind-Condition P (λ x y is. subst (λ z. P (roll-Condition z)) is (step y))

-- what a recursion gives at each variant
module _ (A : Type 0) (step : Condition-F A → A) where
  abbrev value : Condition → A
  value = fold-Condition A step

  rolled : (layer : Condition-F Condition) (c : Condition) → roll-Condition layer ≡ c → value c ≡ step (map-Condition Condition A value layer)
  rolled layer c same = ap value (sym same) ∙ fold-roll-Condition A step layer

  pub fold-True : (at : At) → value (True at) ≡ step (Condition-F.True at)
  fold-True at = rolled (Condition-F.True at) (True at) (rolls-True at)

  pub fold-Atom : (atom : atom_type.Atom) → value (Atom atom) ≡ step (Condition-F.Atom atom)
  fold-Atom atom = rolled (Condition-F.Atom atom) (Atom atom) (rolls-Atom atom)

  pub fold-Equal : (left right : Term) (at : At) → value (Equal left right at) ≡ step (Condition-F.Equal left right at)
  fold-Equal left right at = rolled (Condition-F.Equal left right at) (Equal left right at) (rolls-Equal left right at)

  pub fold-Not : (inside : Condition) (at : At) → value (Not inside at) ≡ step (Condition-F.Not (value inside) at)
  fold-Not inside at = rolled (Condition-F.Not inside at) (Not inside at) (rolls-Not inside at)

  pub fold-And : (members : List Condition) (at : At) → value (And members at) ≡ step (Condition-F.And (map value members) at)
  fold-And members at = rolled (Condition-F.And members at) (And members at) (rolls-And members at)

  pub fold-Or : (members : List Condition) (at : At) → value (Or members at) ≡ step (Condition-F.Or (map value members) at)
  fold-Or members at = rolled (Condition-F.Or members at) (Or members at) (rolls-Or members at)

  pub fold-Imply : (premise conclusion : Condition) (at : At) → value (Imply premise conclusion at) ≡ step (Condition-F.Imply (value premise) (value conclusion) at)
  fold-Imply premise conclusion at = rolled (Condition-F.Imply premise conclusion at) (Imply premise conclusion at) (rolls-Imply premise conclusion at)

  pub fold-Forall : (variables : List Typed) (inside : Condition) (at : At) → value (Forall variables inside at) ≡ step (Condition-F.Forall variables (value inside) at)
  fold-Forall variables inside at = rolled (Condition-F.Forall variables inside at) (Forall variables inside at) (rolls-Forall variables inside at)

  pub fold-Exists : (variables : List Typed) (inside : Condition) (at : At) → value (Exists variables inside at) ≡ step (Condition-F.Exists variables (value inside) at)
  fold-Exists variables inside at = rolled (Condition-F.Exists variables inside at) (Exists variables inside at) (rolls-Exists variables inside at)
