-- The variables of an encoding: over one derived fact, or over basic facts; and what follows from the conditions on the reached task and the cover.
use Rattle.std.proofs.Common.{◌≡◌, ℕ, ◌<◌, Bool, true, false, cond, not, ◌&&◌, ◌||◌, eqb, List, [], ◌∷◌, length, get_or, Some, None, ◌⊎◌, refl, sym, ap, ◌∙◌, subst, inl, inr, arith}
use Rattle.std.specs.List.{Contains, position_or_len}
use Rattle.std.proofs.lemmas.Bool.{cases_Bool, cond-true, cond-false, eqb-true, and_parts, both_ways, false_from_ne_true}
use Rattle.std.proofs.lemmas.Option.{none-some}
use Rattle.std.proofs.lemmas.List.Elements.{All-contains, Contains-get_or}
use Rattle.sas_task.specs.declared.parts.Pair.{Pair}
use Rattle.sas_task.specs.Task.{Task}
use Rattle.sas_task.specs.Valid.{layer_of}
use Rattle.ground_task.specs.declared.types.Cond.{Cond}
use Rattle.ground_task.specs.Literals.{initial}
use Rattle.planning.specs.Task.{State}
use Rattle.reached_task.specs.declared.types.Reached.{Reached}
use Rattle.reached_task.specs.declared.types.ReachedAction.{ReachedAction}
use Rattle.reached_task.specs.declared.types.ReachedAxiom.{ReachedAxiom}
use Rattle.reached_task.specs.ReachedTask.{is_derived, reached_task}
use Rattle.fdr_effects.specs.Places.{Cover, set_of, places}
use Rattle.reached_task.specs.Lawful.{NamesFacts, IsLawfulEffect, IsLawfulAction, IsLawfulAxiom, IsLawful}
use Rattle.fdr_encoder.specs.Encoding.{IsEncoding}
use Rattle.fdr_encoder.specs.Covers.{MakesVariables}
use Rattle.lists.proofs.Members.{any_member, member_single}
use Rattle.fdr_effects.proofs.Sets.{place_of_none}
use Rattle.fdr_effects.proofs.Placed.{AreExclusive, Stands, AllStand, place_in, place_is, place_at, stands_of, stands_member, stands_below}
use Rattle.fdr_encoder.proofs.OneStep.{IsPlaced}
use Rattle.fdr_encoder.proofs.After.{adds_fact, is_added, is_deleted, after}
use Rattle.fdr_encoder.proofs.Parts.{layer_at}

pub lawful_axiom : (reached : Reached) → IsLawful reached → (a : ReachedAxiom) → Contains reached.axioms a → IsLawfulAxiom reached a
lawful_axiom reached lawful a in' = All-contains (IsLawfulAxiom reached) reached.axioms a lawful.axioms in'

-- the position in a set of one fact
pub value_single : (state : State ℕ) (f : ℕ) → position_or_len state (f ∷ []) ≡ cond (state f) 0 1
value_single state f = by_case (state f) refl
  where
    by_case : (b : Bool) → state f ≡ b → position_or_len state (f ∷ []) ≡ cond (state f) 0 1
    by_case true is = first ∙ sym (cond-true (state f) 0 1 is)
      where
        first : position_or_len state (f ∷ []) ≡ 0
        first = grind (arith, is)
    by_case false is = place_of_none state (f ∷ []) (λ g in'. ap state (sym (member_single f g in')) ∙ is) ∙ sym (cond-false (state f) 0 1 is)

module _ (reached : Reached) (cover : Cover) (ok : MakesVariables reached cover) where
  abbrev derived : ℕ → Bool
  derived = is_derived reached.facts

  pub stands : (f : ℕ) → f < length reached.facts → Stands cover f
  stands f below =
      let v = ok.has_all.covered f below in
      stands_of cover f (place_in cover f v.0) (place_at cover f v.0 v.1 v.2)

  pub literals_stand : (c : Cond ℕ) → NamesFacts reached c → AllStand cover c
  literals_stand c names =
      record {
        positive = λ f in'. stands f (All-contains (λ g. g < length reached.facts) c.positive f names.positive in');
        negative = λ f in'. stands f (All-contains (λ g. g < length reached.facts) c.negative f names.negative in');
      }

  -- a variable over one derived fact
  pub record OverDerived (var : ℕ) : Type 0 where
    pub fact : ℕ
    pub alone : set_of cover var ≡ fact ∷ []
    pub is : derived fact ≡ true

  abbrev pub OverBasic : ℕ → Type 0
  OverBasic var = (g : ℕ) → Contains (set_of cover var) g → derived g ≡ false

  -- a derived fact's only place is in the one variable in which it stands
  pub only_place : (var f : ℕ) → var < length cover → Contains (set_of cover var) f → derived f ≡ true → (p : Pair) → Contains (places cover f) p → p.var ≡ var
  only_place var f below in' is p p-in =
      let at = place_is cover f p p-in in
      ok.once p.var var f at.below below at.member in' is

  abbrev head : ℕ → ℕ
  head var = get_or (set_of cover var) 0 0

  head_in : (var : ℕ) → var < length cover → Contains (set_of cover var) (head var)
  head_in var below = Contains-get_or (set_of cover var) 0 0 (ok.has_all.filled var below)

  over_derived : (var : ℕ) → var < length cover → derived (head var) ≡ true → OverDerived var
  over_derived var below is =
      record { fact = head var; alone = ok.alone var (head var) below (head_in var below) is; is = is }

  over_basic : (var : ℕ) → var < length cover → derived (head var) ≡ false → OverBasic var
  over_basic var below no' g in' =
      false_from_ne_true (derived g) (λ is.
      let set = ok.alone var g below in' is in
      let same : head var ≡ g = ap (λ l. get_or l 0 0) set in
      both_ways (derived g) (ap derived (sym same) ∙ no') is)

  pub kind : (var : ℕ) → var < length cover → OverDerived var ⊎ OverBasic var
  kind var below =
      elim (cases_Bool (derived (head var))) [
        | inl is ↦ inl (over_derived var below is)
        | inr no' ↦ inr (over_basic var below no')
      ]

  -- where a state is exclusive, its full facts are
  pub exclusive_full : (state full : State ℕ) → AreExclusive cover state → ((f : ℕ) → derived f ≡ false → full f ≡ state f) → AreExclusive cover full
  exclusive_full state full one basic var below f g f-in g-in f-true g-true =
      elim (kind var below) [
        | inl over ↦
            let alone' = λ (h : ℕ) (h-in : Contains (set_of cover var) h). member_single over.fact h (subst (λ l. Contains l h) over.alone h-in) in
            sym (alone' f f-in) ∙ alone' g g-in
        | inr over ↦ one var below f g f-in g-in (sym (basic f (over f f-in)) ∙ f-true) (sym (basic g (over g g-in)) ∙ g-true)
      ]

  -- what an action's step needs
  pub action_placed : (state full : State ℕ) → ((f : ℕ) → derived f ≡ false → full f ≡ state f) → (a : ReachedAction) → IsLawfulAction reached a → IsPlaced cover full state a
  action_placed state full basic a lawful =
      record {
        fact = λ e in'. stands e.fact (All-contains (IsLawfulEffect reached) a.effects e lawful.each_effect in').fact;
        literals = λ e in'. literals_stand e.condition (All-contains (IsLawfulEffect reached) a.effects e lawful.each_effect in').literals;
        basic = λ e in' var on g g-in.
            basic g (elim (kind var (stands_below cover e.fact var on)) [
              | inl over ↦
                  let here = member_single over.fact e.fact (subst (λ l. Contains l e.fact) over.alone (stands_member cover e.fact var on)) in
                  absurd (both_ways (derived e.fact) (All-contains (IsLawfulEffect reached) a.effects e lawful.each_effect in').basic (ap derived (sym here) ∙ over.is))
              | inr over ↦ over g g-in
            ]);
      }

  -- an action leaves no derived fact in the state
  pub stays_plain : (state full : State ℕ) → ((f : ℕ) → derived f ≡ true → state f ≡ false) → (a : ReachedAction) → IsLawfulAction reached a → (f : ℕ) → derived f ≡ true → after full a state f ≡ false
  stays_plain state full plain a lawful f is =
      let unadded : is_added full a f ≡ false = false_from_ne_true (is_added full a f) (λ h.
      let e = any_member (adds_fact full f) a.effects h in
      let same : e.0.fact ≡ f = eqb-true e.0.fact f (and_parts (eqb e.0.fact f) _ (and_parts e.0.adds _ e.2).1).0 in
      both_ways (derived e.0.fact) (All-contains (IsLawfulEffect reached) a.effects e.0 lawful.each_effect e.1).basic (ap derived same ∙ is)) in
      ap (λ b. b || (state f && not (is_deleted full a f))) unadded ∙ ap (λ b. b && not (is_deleted full a f)) (plain f is)

  -- the initial state has no derived fact
  pub starts_plain : IsLawful reached → (f : ℕ) → derived f ≡ true → initial (reached_task reached) f ≡ false
  starts_plain lawful f is =
      false_from_ne_true (initial (reached_task reached) f) (λ h.
      let g = any_member (λ g. eqb g f) reached.init h in
      both_ways (derived f) (subst (λ x. derived x ≡ false) (eqb-true g.0 f g.2) (All-contains (λ f. (f < length reached.facts) × (derived f ≡ false)) reached.init g.0 lawful.init g.1).1) is)

  -- a variable has a layer exactly where it is over a derived fact
  module _ (mutexes : List (List ℕ)) (layers : List ℕ) (task : Task) (encoding : IsEncoding cover mutexes layers reached task) where
    pub over_by_layer : (var layer : ℕ) → var < length cover → layer_of task var ≡ Some layer → OverDerived var
    over_by_layer var layer below is =
        elim (cases_Bool (derived (head var))) [
          | inl yes' ↦ over_derived var below yes'
          | inr no' ↦ absurd (none-some layer (sym (layer_at cover mutexes layers reached task encoding var below ∙ cond-false (derived (head var)) (Some (get_or layers (head var) 0)) None no') ∙ is))
        ]

    pub basic_by_layer : (var : ℕ) → var < length cover → layer_of task var ≡ None → OverBasic var
    basic_by_layer var below is =
        elim (cases_Bool (derived (head var))) [
          | inl yes' ↦ absurd (none-some (get_or layers (head var) 0) (sym is ∙ layer_at cover mutexes layers reached task encoding var below ∙ cond-true (derived (head var)) (Some (get_or layers (head var) 0)) None yes'))
          | inr no' ↦ over_basic var below no'
        ]

    pub layer_of_derived : (var : ℕ) → var < length cover → OverDerived var → (layer : ℕ) × (layer_of task var ≡ Some layer)
    layer_of_derived var below over =
        let same : head var ≡ over.fact = ap (λ l. get_or l 0 0) over.alone in
        (get_or layers (head var) 0, layer_at cover mutexes layers reached task encoding var below ∙ cond-true (derived (head var)) (Some (get_or layers (head var) 0)) None (ap derived same ∙ over.is))

    pub layer_of_basic : (var : ℕ) → var < length cover → OverBasic var → layer_of task var ≡ None
    layer_of_basic var below over =
        layer_at cover mutexes layers reached task encoding var below ∙ cond-false (derived (head var)) (Some (get_or layers (head var) 0)) None (over (head var) (head_in var below))
