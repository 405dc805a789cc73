-- Induction over an effect, and what a fold gives, one case for each variant.
use Rattle.std.proofs.Common.{◌≡◌, List, [], ◌∷◌, map, sym, ap, ◌∙◌, subst}
use Rattle.pddl_lexer.specs.declared.position.At.{At}
use Rattle.pddl_syntax.specs.declared.types.Atom.{Atom}
use Rattle.pddl_syntax.specs.declared.types.Condition.{Condition}
use Rattle.pddl_syntax.specs.declared.types.Cost.{Cost}
use Rattle.pddl_syntax.specs.declared.types.Effect.{Effect, Effect-F, fold-Effect, fold-roll-Effect, ind-Effect, map-Effect}
use Rattle.pddl_syntax.specs.declared.types.Effect.TheVariants.{Nothing, rolls-Nothing, Add, rolls-Add, Delete, rolls-Delete, And, rolls-And, When, rolls-When, Forall, rolls-Forall, Increase, rolls-Increase}
use Rattle.pddl_syntax.specs.declared.types.Effect.TheViews.{roll-Effect}
use Rattle.pddl_syntax.specs.declared.types.Typed.{Typed}
use Rattle.pddl_syntax.proofs.ConditionCases.{Each}

-- what an induction over an effect shows
pub record EffectCases (P : Effect → Type 0) : Type 0 where
  pub at_nothing : (at : At) → P (Nothing at)
  pub at_add : (atom : Atom) → P (Add atom)
  pub at_delete : (atom : Atom) → P (Delete atom)
  pub at_and : (members : List Effect) (at : At) → Each P members → P (And members at)
  pub at_when : (condition : Condition) (inside : Effect) (at : At) → P inside → P (When condition inside at)
  pub at_forall : (variables : List Typed) (inside : Effect) (at : At) → P inside → P (Forall variables inside at)
  pub at_increase : (term : Atom) (cost : Cost) (at : At) → P (Increase term cost at)

module _ (P : Effect → Type 0) where
  abbrev Held : Type 0
  Held = (e : Effect) × P e

  each_held : (held : List Held) → Each P (map (λ e. e.0) held)
  each_held [] = tt
  each_held (e ∷ held) = (e.1, each_held held)

  module _ (cases : EffectCases P) where
    step : (y : Effect-F Held) → P (roll-Effect (map-Effect Held Effect (λ e. e.0) y))
    step (Effect-F.Nothing at) = subst P (sym (rolls-Nothing at)) (cases.at_nothing at)
    step (Effect-F.Add atom) = subst P (sym (rolls-Add atom)) (cases.at_add atom)
    step (Effect-F.Delete atom) = subst P (sym (rolls-Delete atom)) (cases.at_delete atom)
    step (Effect-F.And members at) = subst P (sym (rolls-And _ at)) (cases.at_and _ at (each_held members))
    step (Effect-F.When condition inside at) = subst P (sym (rolls-When condition _ at)) (cases.at_when condition _ at inside.1)
    step (Effect-F.Forall variables inside at) = subst P (sym (rolls-Forall variables _ at)) (cases.at_forall variables _ at inside.1)
    step (Effect-F.Increase term cost at) = subst P (sym (rolls-Increase term cost at)) (cases.at_increase term cost at)

    pub effect_by_cases : (e : Effect) → P e
    effect_by_cases = ind-Effect P (λ x y is. subst (λ z. P (roll-Effect z)) is (step y))

-- what a recursion gives at each variant
module _ (A : Type 0) (step : Effect-F A → A) where
  abbrev value : Effect → A
  value = fold-Effect A step

  rolled : (layer : Effect-F Effect) (e : Effect) → roll-Effect layer ≡ e → value e ≡ step (map-Effect Effect A value layer)
  rolled layer e same = ap value (sym same) ∙ fold-roll-Effect A step layer

  pub fold-Nothing : (at : At) → value (Nothing at) ≡ step (Effect-F.Nothing at)
  fold-Nothing at = rolled (Effect-F.Nothing at) (Nothing at) (rolls-Nothing at)

  pub fold-Add : (atom : Atom) → value (Add atom) ≡ step (Effect-F.Add atom)
  fold-Add atom = rolled (Effect-F.Add atom) (Add atom) (rolls-Add atom)

  pub fold-Delete : (atom : Atom) → value (Delete atom) ≡ step (Effect-F.Delete atom)
  fold-Delete atom = rolled (Effect-F.Delete atom) (Delete atom) (rolls-Delete atom)

  pub fold-And : (members : List Effect) (at : At) → value (And members at) ≡ step (Effect-F.And (map value members) at)
  fold-And members at = rolled (Effect-F.And members at) (And members at) (rolls-And members at)

  pub fold-When : (condition : Condition) (inside : Effect) (at : At) → value (When condition inside at) ≡ step (Effect-F.When condition (value inside) at)
  fold-When condition inside at = rolled (Effect-F.When condition inside at) (When condition inside at) (rolls-When condition inside at)

  pub fold-Forall : (variables : List Typed) (inside : Effect) (at : At) → value (Forall variables inside at) ≡ step (Effect-F.Forall variables (value inside) at)
  fold-Forall variables inside at = rolled (Effect-F.Forall variables inside at) (Forall variables inside at) (rolls-Forall variables inside at)

  pub fold-Increase : (term : Atom) (cost : Cost) (at : At) → value (Increase term cost at) ≡ step (Effect-F.Increase term cost at)
  fold-Increase term cost at = rolled (Effect-F.Increase term cost at) (Increase term cost at) (rolls-Increase term cost at)
