use Rattle.std.proofs.Common.{◌≡◌, ℕ, ◌<◌, false, [], ◌∷◌, refl, subst, arith}
use Rattle.std.specs.List.{All, Contains}
use Rattle.std.specs.List.Sorted.{IsStrictlySortedBy}
use Rattle.std.proofs.lemmas.Bool.{true≢false, false≢true}
use Rattle.std.proofs.lemmas.List.Elements.{All-nil, All-cons}
use Rattle.lists.specs.Names.{IsName}
use Rattle.lists.proofs.Members.{no_member, member_first, member_single}
use Rattle.ground_task.specs.Examples.{all_of, none_of}
use Rattle.ground_task.specs.Literals.{AxiomRow}
use Rattle.reached_task.specs.declared.types.Fact.{Fact}
use Rattle.reached_task.specs.Examples.{lit, is_light, turns_on, press, lights, lamp}
use Rattle.reached_task.specs.ReachedTask.{is_derived, axiom_row}
use Rattle.reached_task.specs.Lawful.{NamesFacts, IsLawfulEffect, IsLawfulAction, IsLawfulAxiom}
use Rattle.reached_task.proofs.laws.lawful_examples.Goals as goal

-- all of a list have what its only member has
only : {X : Type 0} (P : X → Type 0) (x : X) → P x → All P (x ∷ [])
only P x has = All-cons P x [] has (All-nil P)

names : (f : ℕ) → f < 2 → NamesFacts lamp (all_of (f ∷ []))
names f below = record { positive = only (λ f. f < 2) f below; negative = All-nil (λ f. f < 2) }

pub returns-clause-lawful : goal.returns-clause-lawful
unfolding IsStrictlySortedBy
returns-clause-lawful c =
    record {
      in_order = ((refl, tt), (tt, tt));
      shown = All-cons (λ (f : Fact). IsName f.shown) lit (is_light ∷ []) refl (only (λ (f : Fact). IsName f.shown) is_light refl);
      init = only (λ f. (f < 2) × (is_derived lamp.facts f ≡ false)) 0 (omega arith, refl);
      init_once = refl;
      actions = only (IsLawfulAction lamp) press (record {
        literals = names 0 (omega arith);
        each_effect = only (IsLawfulEffect lamp) (turns_on 0) (record { fact = omega arith; basic = refl; literals = record { positive = All-nil (λ f. f < 2); negative = All-nil (λ f. f < 2) } });
        small_cost = omega arith;
        unit_cost = λ unit. refl;
        name = refl;
      });
      axioms = only (IsLawfulAxiom lamp) lights (record { derived = refl; literals = names 0 (omega arith) });
      goal = names 1 (omega arith);
      ranked = record {
        rank = λ f. f;
        positive = λ row in' f asks derived.
            subst (λ (r : AxiomRow ℕ). Contains r.condition.positive f → f < r.atom) (member_single (axiom_row lights) row in') (λ asks. let same = member_single 0 f asks in omega (arith, same)) asks;
        negative = λ row in' f asks derived.
            subst (λ (r : AxiomRow ℕ). Contains r.condition.negative f → f < r.atom) (member_single (axiom_row lights) row in') (λ asks. absurd (no_member f asks)) asks;
      };
    }

not_below_itself : (n : ℕ) → n < n → ⊥
not_below_itself n below = omega (arith, below)

-- there is a first member of a list with one
first : 0 < 1
first = omega arith

pub returns-clause-refused : goal.returns-clause-refused
unfolding IsStrictlySortedBy
returns-clause-refused c = record {
  in_order = λ lawful. let less = lawful.in_order.1.0.0 in cc;
  facts_once = λ lawful. let less = lawful.in_order.1.0.0 in cc;
  fact_name = λ lawful. false≢true (lawful.shown 0 lit (omega arith));
  init_number = λ lawful. not_below_itself 2 (lawful.init 0 0 first).0;
  init_derived = λ lawful. true≢false (lawful.init 0 0 first).1;
  init_once = λ lawful. false≢true lawful.init_once;
  action_name = λ lawful. false≢true (lawful.actions 0 press first).name;
  positive_literal = λ lawful. not_below_itself 2 ((lawful.actions 0 press first).literals.positive 0 0 first);
  negative_literal = λ lawful. not_below_itself 2 ((lawful.actions 0 press first).literals.negative 0 0 first);
  effect_number = λ lawful. not_below_itself 2 ((lawful.actions 0 press first).each_effect 0 (turns_on 0) first).fact;
  effect_on_derived = λ lawful. true≢false ((lawful.actions 0 press first).each_effect 0 (turns_on 0) first).basic;
  effect_condition = λ lawful. not_below_itself 2 (((lawful.actions 0 press first).each_effect 0 (turns_on 0) first).literals.positive 0 0 first);
  great_cost = λ lawful. let low = (lawful.actions 0 press first).small_cost in omega (arith, low);
  unit_cost = λ lawful. let unit = (lawful.actions 0 press first).unit_cost refl in omega (arith, unit);
  rule_for_basic = λ lawful. false≢true (lawful.axioms 0 lights first).derived;
  rule_condition = λ lawful. not_below_itself 2 ((lawful.axioms 0 lights first).literals.positive 0 0 first);
  ranked = λ lawful.
      let row = axiom_row (record (lights) { condition = all_of (1 ∷ []) }) in
      not_below_itself (lawful.ranked.rank 1) (lawful.ranked.positive row (member_first row []) 1 (member_first 1 []) refl);
  ranked_where_false = λ lawful.
      let row = axiom_row (record (lights) { condition = none_of (1 ∷ []) }) in
      not_below_itself (lawful.ranked.rank 1) (lawful.ranked.negative row (member_first row []) 1 (member_first 1 []) refl);
  goal = λ lawful. not_below_itself 2 (lawful.goal.positive 0 0 first);
}
