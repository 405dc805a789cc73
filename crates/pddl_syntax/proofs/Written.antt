-- An effect writes atoms of a finite list alone: those of its additions and deletions, with all objects of its variables.
use Rattle.std.proofs.Common.{◌≡◌, Bool, true, not, ◌&&◌, inl, inr, List, [], ◌∷◌, map, sym, ap, ◌∙◌, subst}
use Rattle.std.specs.List.{list_any, flat_map}
use Rattle.std.proofs.lemmas.Bool.{and_parts, or_cases}
use Rattle.lists.proofs.Items.{Among, Each, among_left, among_right, among_flat_map, passing}
use Rattle.pddl_syntax.specs.declared.types.Domain.{Domain}
use Rattle.pddl_syntax.specs.declared.types.Effect.{Effect, Effect-F, fold-Effect}
use Rattle.pddl_syntax.specs.declared.types.Problem.{Problem}
use Rattle.pddl_syntax.specs.declared.types.Typed.{Typed}
use Rattle.pddl_syntax.specs.Objects.{Binding, bound, choices}
use Rattle.pddl_syntax.specs.Holds.{GroundAtom, is_same_atom, State, ground, holds}
use Rattle.pddl_syntax.specs.Step.{writes_step, writes}
use Rattle.pddl_syntax.proofs.EffectCases as e
use Rattle.pddl_syntax.proofs.SameAtoms.{same_atom}

-- ---- the atoms of an effect

abbrev pub written_step : Domain → Problem → Effect-F (Binding → List GroundAtom) → Binding → List GroundAtom
written_step domain problem (Effect-F.Nothing at) binding = []
written_step domain problem (Effect-F.Add added) binding = ground binding added ∷ []
written_step domain problem (Effect-F.Delete deleted) binding = ground binding deleted ∷ []
written_step domain problem (Effect-F.And members at) binding = flat_map (λ member. member binding) members
written_step domain problem (Effect-F.When condition inside at) binding = inside binding
written_step domain problem (Effect-F.Forall variables inside at) binding = flat_map (λ names. inside (bound variables names binding)) (choices domain problem variables)
written_step domain problem (Effect-F.Increase term cost at) binding = []

-- the atoms that the effect may add or delete, whatever the state
abbrev pub written : Domain → Problem → Effect → Binding → List GroundAtom
written domain problem = fold-Effect (Binding → List GroundAtom) (written_step domain problem)

module _ (domain : Domain) (problem : Problem) (state : State) (adds : Bool) (atom : GroundAtom) where
  abbrev ws : Effect-F (Binding → State) → Binding → State
  ws = writes_step domain problem state adds

  abbrev ls : Effect-F (Binding → List GroundAtom) → Binding → List GroundAtom
  ls = written_step domain problem

  abbrev IsListed : Effect → Type 0
  IsListed effect = (binding : Binding) → writes domain problem state adds effect binding atom ≡ true → Among atom (written domain problem effect binding)

  at : (f g : Binding → State) → f ≡ g → (binding : Binding) → f binding atom ≡ g binding atom
  at f g same binding = ap (λ h. h binding atom) same

  listed : (f g : Binding → List GroundAtom) → f ≡ g → (binding : Binding) → Among atom (g binding) → Among atom (f binding)
  listed f g same binding = subst (λ (h : Binding → List GroundAtom). Among atom (h binding)) (sym same)

  members_listed : (members : List Effect) → Each IsListed members → (binding : Binding) →
      list_any (λ member. member binding atom) (map (writes domain problem state adds) members) ≡ true →
      Among atom (flat_map (λ member. member binding) (map (written domain problem) members))
  members_listed [] each binding held = absurd cc
  members_listed (member ∷ members) each binding held =
      let first = written domain problem member binding in
      let others = flat_map (λ (m : Binding → List GroundAtom). m binding) (map (written domain problem) members) in
      elim (or_cases (writes domain problem state adds member binding atom) (list_any (λ m. m binding atom) (map (writes domain problem state adds) members)) held) [
        | inl here ↦ among_left atom first others (each.0 binding here)
        | inr there ↦ among_right atom first others (members_listed members each.1 binding there)
      ]

  one : (known : GroundAtom) (test : Bool) → (test && is_same_atom known atom) ≡ true → Among atom (known ∷ [])
  one known test held = inl (same_atom known atom (and_parts test (is_same_atom known atom) held).1)

  in_choices : (variables : List Typed) (inside : Effect) → IsListed inside → (binding : Binding) →
      list_any (λ names. writes domain problem state adds inside (bound variables names binding) atom) (choices domain problem variables) ≡ true →
      Among atom (flat_map (λ names. written domain problem inside (bound variables names binding)) (choices domain problem variables))
  in_choices variables inside inner binding held =
      let found = passing (λ names. writes domain problem state adds inside (bound variables names binding) atom) (choices domain problem variables) held in
      among_flat_map (λ names. written domain problem inside (bound variables names binding)) found.item atom (choices domain problem variables) found.among (inner (bound variables found.item binding) found.passes)

  pub written_has : (effect : Effect) → IsListed effect
  written_has = e.effect_by_cases IsListed record {
    at_nothing = λ here binding held. absurd (cc (at _ _ (e.fold-Nothing _ ws here) binding));
    at_add = λ added binding held.
        listed _ _ (e.fold-Add _ ls added) binding (one (ground binding added) adds (sym (at _ _ (e.fold-Add _ ws added) binding) ∙ held));
    at_delete = λ deleted binding held.
        listed _ _ (e.fold-Delete _ ls deleted) binding (one (ground binding deleted) (not adds) (sym (at _ _ (e.fold-Delete _ ws deleted) binding) ∙ held));
    at_and = λ members here each binding held.
        listed _ _ (e.fold-And _ ls members here) binding (members_listed members each binding (sym (at _ _ (e.fold-And _ ws members here) binding) ∙ held));
    at_when = λ condition inside here inner binding held.
        listed _ _ (e.fold-When _ ls condition inside here) binding
        (inner binding (and_parts (holds domain problem state condition binding) (writes domain problem state adds inside binding atom) (sym (at _ _ (e.fold-When _ ws condition inside here) binding) ∙ held)).1);
    at_forall = λ variables inside here inner binding held.
        listed _ _ (e.fold-Forall _ ls variables inside here) binding
        (in_choices variables inside inner binding (sym (at _ _ (e.fold-Forall _ ws variables inside here) binding) ∙ held));
    at_increase = λ term cost here binding held. absurd (cc (at _ _ (e.fold-Increase _ ws term cost here) binding));
  }
