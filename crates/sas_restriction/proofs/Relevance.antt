-- The relevant variables, with all their values and the operators that have an effect on them, meet the condition of the law.
use Rattle.std.proofs.Common.{◌≡◌, ℕ, ◌<◌, true, eqb, ltb, List, length, ◌∙◌, sym, inl, inr, arith}
use Rattle.std.specs.List.{Contains, All}
use Rattle.std.proofs.lemmas.Bool.{cases_eq, and_parts, lt-ltb, ltb-true}
use Rattle.std.proofs.lemmas.Option.{none-some}
use Rattle.std.proofs.lemmas.List.Elements.{All-contains}
use Rattle.std.proofs.lemmas.List.Kept.{AllPairs-from_increasing}
use Rattle.sas_task.specs.declared.parts.Pair.{Pair}
use Rattle.sas_task.specs.declared.parts.Effect.{Effect}
use Rattle.sas_task.specs.declared.parts.Operator.{Operator}
use Rattle.sas_task.specs.Task.{Task}
use Rattle.sas_task.specs.Valid.{IsValid, IsFact}
use Rattle.sas_task.proofs.States.{is_variable}
use Rattle.sas_task.proofs.ValidParts.{operator_law, effect_law, rule_law}
use Rattle.lists.specs.Members.{is_among}
use Rattle.lists.proofs.Items.{contains_among, same_any, any_swap}
use Rattle.lists.proofs.Members.{all_from_members}
use Rattle.lists.proofs.Members as members
use Rattle.lists.proofs.Ordered.{same_ordered}
use Rattle.sas_restriction.specs.Choice.{Choice, IsChoice, is_shown, all_left, effect_stays, is_busy, operator_stays, busy_alone}
use Rattle.sas_restriction.specs.Everything.{all_values, everything}
use Rattle.sas_restriction.specs.MayStand.{MayStand}
use Rattle.sas_restriction.specs.Relevant.{HasInfluences, AreRelevant}
use Rattle.sas_restriction.specs.Reduced.{changes_some}
use Rattle.sas_restriction.proofs.Numbers.{any_member, member_any}
use Rattle.sas_restriction.proofs.Closed.{has_always, sets_always}
use Rattle.sas_restriction.proofs.AllValues.{all_closed}
use Rattle.sas_restriction.proofs.Renumbered.{effect_left, choice_of}

-- there is one list of the relevant variables
pub one_list : (T : Task) (vars vars' : List ℕ) → AreRelevant T vars → AreRelevant T vars' → vars ≡ vars'
one_list T vars vars' are are' =
    same_ordered (λ (v w : ℕ). v < w) (λ v w a b. absurd (omega arith)) vars vars' (AllPairs-from_increasing vars are.sorted) (AllPairs-from_increasing vars' are'.sorted)
    (λ v in'. any_member v vars' (are.least (is_among eqb vars') are'.closed v (member_any v vars in')))
    (λ v in'. any_member v vars (are'.least (is_among eqb vars) are.closed v (member_any v vars' in')))

module _ (T : Task) (valid : IsValid T) where
  low : (ps : List Pair) → All (IsFact T) ps → (p : Pair) → Contains ps p → ltb p.var (length T.variables) ≡ true
  low ps facts p in' = lt-ltb p.var (length T.variables) (is_variable T p.var p.val (All-contains (IsFact T) ps p facts in'))

  -- the variables are a set that has all that can influence the goal
  all_influences : HasInfluences T (λ v. ltb v (length T.variables))
  all_influences =
      record {
        goal = λ p in'. low T.goal valid.goal.facts p in';
        rules = λ r p in-r has in'. low r.conditions (rule_law T valid r in-r).conditions.facts p in';
        operators = λ o e p in-o in-e has in'. low o.conditions (operator_law T valid o in-o).conditions.facts p in';
        effects = λ o e p in-o in-e has in'. low e.conditions (effect_law T valid o in-o e in-e).conditions.facts p in';
        disagreements = λ o e a b in-o in-e has in-a in-b same other. lt-ltb a.var (length T.variables) (is_variable T a.var a.after (effect_law T valid o in-o a in-a).value);
      }

  module _ (vars : List ℕ) (are : AreRelevant T vars) where
    abbrev C : Choice
    C = busy_alone (everything T vars)

    -- relevant variables are variables
    pub relevant_below : All (λ v. v < length T.variables) vars
    relevant_below =
        all_from_members (λ v. v < length T.variables) vars (λ v in'. ltb-true v (length T.variables) (are.least (λ v. ltb v (length T.variables)) all_influences v (member_any v vars in')))

    -- an operator has an effect that stays where it has an effect on a relevant variable
    pub busy_is : (o : Operator) → Contains T.operators o → is_busy (everything T vars) o ≡ changes_some vars o
    busy_is o in-o =
        same_any (effect_stays (everything T vars)) (λ (e : Effect). is_among eqb vars e.var) o.effects (λ e among. effect_left T valid vars e (effect_law T valid o in-o e (contains_among o.effects e among)))
        ∙ any_swap (λ (e : Effect) v. eqb e.var v) o.effects vars

    pub busy_effect : (o : Operator) → changes_some vars o ≡ true → (e : Effect) × Contains o.effects e × (is_among eqb vars e.var ≡ true)
    busy_effect o busy = members.any_member (λ (e : Effect). is_among eqb vars e.var) o.effects (any_swap (λ (e : Effect) v. eqb e.var v) o.effects vars ∙ busy)

    effect_of : (o : Operator) → Contains T.operators o → operator_stays C o ≡ true → (e : Effect) × Contains o.effects e × (is_among eqb vars e.var ≡ true)
    effect_of o in-o stays = busy_effect o (sym (busy_is o in-o) ∙ (and_parts (all_left C o.conditions) (is_busy (everything T vars) o) stays).1)

    pub choice : IsChoice (busy_alone (everything T vars)) T
    choice = choice_of T valid vars (λ o. is_busy (everything T vars) o) relevant_below (λ i j d lt within same. let less = AllPairs-from_increasing vars are.sorted i j d lt within in absurd (omega arith))

    pub may : MayStand (busy_alone (everything T vars)) T
    may =
        record {
          has = has_always T valid (λ v x. Contains (all_values T v) x) (all_closed T valid);
          sets = λ s reached o in-o stays. sets_always T valid (λ v x. Contains (all_values T v) x) (all_closed T valid) s reached o in-o;
          operators = λ o in-o stays p in'. let e = effect_of o in-o stays in inl (are.closed.operators o e.0 p in-o e.1 e.2 in');
          effects = λ o in-o stays e in-e e-stays p in'. inl (are.closed.effects o e p in-o in-e (sym (effect_left T valid vars e (effect_law T valid o in-o e in-e)) ∙ e-stays) in');
          rules = λ r in-r stays p in'. inl (are.closed.rules r p in-r (and_parts (all_left C r.conditions) (is_shown C r.var) stays).1 in');
          goal = λ none p in'. inl (are.closed.goal p in');
          held = λ start none. absurd (none-some start none);
          agree = λ o in-o stays a b in-a in-b same.
              elim (cases_eq a.after b.after) [
                | inl one ↦ inr one
                | inr other ↦ let e = effect_of o in-o stays in inl (inl (are.closed.disagreements o e.0 a b in-o e.1 e.2 in-a in-b same other))
              ];
          each = λ s reached o t step busy. busy;
        }
