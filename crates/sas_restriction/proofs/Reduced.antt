-- The task without what can't influence its goal is the restriction to its relevant variables, and may stand for it.
use Rattle.std.proofs.Common.{◌≡◌, ◌≢◌, ℕ, ◌<◌, true, false, ◌&&◌, eqb, ltb, List, [], ◌∷◌, map, filter, sum, length, get_or, append-nil, ◌⊎◌, refl, sym, ap, ◌∙◌, subst, inl, inr, arith}
use Rattle.std.specs.Prelude.{IsTrue}
use Rattle.std.specs.List.{Contains}
use Rattle.std.proofs.lemmas.List.Elements.{All-contains}
use Rattle.runs.specs.Systems.{IsFollowedWhere}
use Rattle.runs.proofs.Systems.{part_follows}
use Rattle.sas_task.specs.declared.parts.Pair.{Pair}
use Rattle.sas_task.specs.declared.parts.Group.{Group}
use Rattle.sas_task.specs.declared.parts.Effect.{Effect}
use Rattle.sas_task.specs.declared.parts.Operator.{Operator}
use Rattle.sas_task.specs.declared.parts.Rule.{Rule}
use Rattle.sas_task.specs.Task.{Task, of_parts}
use Rattle.sas_task.specs.Valid.{IsValid, IsValidGroup}
use Rattle.sas_task.specs.Values.{all_hold, values}
use Rattle.sas_task.specs.Solution.{HasSolution, cost_in, system}
use Rattle.sas_task.specs.Keeps.{Keeps}
use Rattle.sas_task.specs.Orders.{group_cmp, effect_cmp, operator_cmp, rule_cmp}
use Rattle.sas_task.proofs.KeepsLaws.{keeps_itself}
use Rattle.sas_task.specs.TotalOrders.{operator_total}
use Rattle.sas_task.proofs.ValidParts.{operator_law, effect_law}
use Rattle.lists.specs.Members.{is_among}
use Rattle.lists.proofs.Members.{no_member, map_member, filter_member}
use Rattle.sas_task.specs.InOrder.{sorted, in_order}
use Rattle.sas_task.proofs.Sorted.{sorted_member}
use Rattle.sas_restriction.specs.declared.chosen.Once.{Once}
use Rattle.sas_restriction.specs.Choice.{Choice, new_val, new_variable, variable_at, new_group, effect_stays, new_effect, is_busy, operator_stays, rule_stays, new_rule, busy_alone}
use Rattle.sas_restriction.specs.Restriction.{restriction, new_operator, new_groups, Restricts}
use Rattle.sas_restriction.specs.Everything.{everything}
use Rattle.sas_restriction.specs.KeepsCosts.{KeepsCosts}
use Rattle.sas_restriction.specs.KeepsPart.{KeepsPart}
use Rattle.sas_restriction.specs.Relevant.{AreRelevant}
use Rattle.sas_restriction.specs.Reordered.{renumbered_effect, renumbered_rule}
use Rattle.sas_restriction.specs.Reduced.{reduced_group, changes_some, reduced_operator, reduced, HasRelevantAlone, IsReduced}
use Rattle.sas_restriction.proofs.AllValues.{facts_left}
use Rattle.sas_restriction.proofs.Relevance.{one_list, relevant_below, busy_is, busy_effect, choice, may}
use Rattle.sas_restriction.proofs.Renumbered.{agree, left_agree, pairs_are, group_is, effect_left, effect_is, rule_left, rule_is, variable_is, start_is}
use Rattle.sas_restriction.proofs.Valid.{restriction_valid}
use Rattle.sas_restriction.proofs.Arranged.{restricts}
use Rattle.sas_restriction.proofs.Steps.{Shows, followed_busy}
use Rattle.sas_restriction.proofs.Stands.{keeps}

-- operators and groups that stand there twice go
abbrev pub some_go : Once
some_go = record { effects = false; operators = true; groups = true; rules = false }

module _ (T : Task) (valid : IsValid T) (vars : List ℕ) (are : AreRelevant T vars) where
  abbrev C : Choice
  C = busy_alone (everything T vars)

  groups_are : new_groups C T ≡ filter (λ (g : Group). ltb 1 (length g.facts)) (map (reduced_group vars) T.groups)
  groups_are =
      ap (filter (λ (g : Group). ltb 1 (length g.facts))) (agree (new_group C) (reduced_group vars) T.groups (λ g in'. group_is T valid vars g (All-contains (IsValidGroup T) T.groups g valid.groups in')))

  -- what an operator with an effect on a relevant variable needs is relevant
  operator_is : (o : Operator) → Contains T.operators o → changes_some vars o ≡ true → new_operator some_go C o ≡ reduced_operator vars o
  operator_is o in-o busy =
      let conditions = pairs_are T valid vars o.conditions (operator_law T valid o in-o).conditions.facts (λ p in'. let e = busy_effect T valid vars are o busy in are.closed.operators o e.0 p in-o e.1 e.2 in') in
      let effects = left_agree (effect_stays C) (λ (e : Effect). is_among eqb vars e.var) (new_effect C) (renumbered_effect vars) o.effects
      (λ e in-e. effect_left T valid vars e (effect_law T valid o in-o e in-e))
      (λ e in-e is. effect_is T valid vars e (effect_law T valid o in-o e in-e) (λ p in'. are.closed.effects o e p in-o in-e is in')) in
      λ i. record { name = o.name; conditions = conditions i; effects = in_order effect_cmp (effects i); cost = o.cost }

  operators_are : map (new_operator some_go C) (filter (operator_stays C) T.operators) ≡ map (reduced_operator vars) (filter (changes_some vars) T.operators)
  operators_are =
      left_agree (operator_stays C) (changes_some vars) (new_operator some_go C) (reduced_operator vars) T.operators
      (λ o in-o. ap (λ b. b && is_busy (everything T vars) o) (facts_left T o.conditions (operator_law T valid o in-o).conditions.facts) ∙ busy_is T valid vars are o in-o)
      operator_is

  rules_are : map (new_rule C) (filter (rule_stays C) T.rules) ≡ map (renumbered_rule vars) (filter (λ (r : Rule). is_among eqb vars r.var) T.rules)
  rules_are =
      left_agree (rule_stays C) (λ (r : Rule). is_among eqb vars r.var) (new_rule C) (renumbered_rule vars) T.rules
      (λ r in-r. rule_left T valid vars r in-r)
      (λ r in-r is. rule_is T valid vars r in-r (λ p in'. are.closed.rules r p in-r is in'))

  var_below : (v : ℕ) → Contains vars v → v < length T.variables
  var_below v in' = All-contains (λ v. v < length T.variables) vars v (relevant_below T valid vars are) in'

  pub reduced_is : reduced vars T ≡ restriction some_go (busy_alone (everything T vars)) T
  reduced_is i =
      of_parts T.metric
      (sym (append-nil (map (new_variable C T) vars) ∙ agree (new_variable C T) (variable_at T) vars (λ v in'. variable_is T valid vars v)) i)
      (sorted group_cmp (sym groups_are i))
      (sym (append-nil (map (λ v. new_val C v (get_or T.state v 0)) vars) ∙ agree (λ v. new_val C v (get_or T.state v 0)) (λ v. get_or T.state v 0) vars (λ v in'. start_is T valid vars v (var_below v in'))) i)
      (sym (pairs_are T valid vars T.goal valid.goal.facts (λ p in'. are.closed.goal p in')) i)
      (sorted operator_cmp (sym operators_are i))
      (in_order rule_cmp (sym rules_are i))

  is_restriction : Restricts C T (restriction some_go C T)
  is_restriction = restricts some_go C T valid (choice T valid vars are)

  pub part_valid : IsValid (reduced vars T)
  part_valid = subst IsValid (sym reduced_is) (restriction_valid C T (restriction some_go C T) valid (choice T valid vars are) is_restriction)

  pub part_keeps : Keeps T (reduced vars T)
  part_keeps = subst (Keeps T) (sym reduced_is) (keeps C T (restriction some_go C T) valid (choice T valid vars are) is_restriction (may T valid vars are))

  -- of a solution the operators with an effect on a relevant variable are a solution
  pub part_solves : KeepsPart (changes_some vars) T (reduced vars T)
  part_solves =
      subst (KeepsPart (changes_some vars) T) (sym reduced_is) (part_follows (system T) (system (restriction some_go C T)) (changes_some vars) Show followed)
    where
      Show : List ℕ → List ℕ → Type 0
      Show = Shows C T (restriction some_go C T) valid (choice T valid vars are) is_restriction (may T valid vars are)

      busy : IsFollowedWhere (system T) (system (restriction some_go C T)) (is_busy C) (Shows C T (restriction some_go C T) valid (choice T valid vars are) is_restriction (may T valid vars are))
      busy = followed_busy C T (restriction some_go C T) valid (choice T valid vars are) is_restriction (may T valid vars are)

      followed : IsFollowedWhere (system T) (system (restriction some_go C T)) (changes_some vars) Show
      followed =
          record {
            starts = busy.starts;
            steps = λ s t related o next takes passes. busy.steps s t related o next takes (busy_is T valid vars are o takes.of_task ∙ passes);
            others = λ s t related o next takes fails. busy.others s t related o next takes (busy_is T valid vars are o takes.of_task ∙ fails);
            goals = busy.goals;
          }

empty_or_not : (ps : List Pair) → (ps ≡ []) ⊎ (ps ≢ [])
empty_or_not [] = inl refl
empty_or_not (p ∷ ps) = inr (λ e. cc)

-- what holds of the task itself, and of what is left of it with its relevant variables, holds of what the pass makes of it
of_either : (P : Task → Type 0) (T T' : Task) → IsReduced T T' → P T → ((vars : List ℕ) → AreRelevant T vars → P (reduced vars T)) → P T'
of_either P T T' is own alone =
    elim (empty_or_not T.goal) [
      | inl none ↦ subst P (sym (is.empty_goal none)) own
      | inr some ↦ let part = is.some_goal some in subst P (sym part.same) (alone part.vars part.are)
    ]

pub reduced_valid : (T T' : Task) → IsValid T → IsReduced T T' → IsValid T'
reduced_valid T T' valid is = of_either IsValid T T' is valid (part_valid T valid)

pub reduced_keeps : (T T' : Task) → IsValid T → IsReduced T T' → Keeps T T'
reduced_keeps T T' valid is = of_either (Keeps T) T T' is (keeps_itself T) (part_keeps T valid)

pub reduced_solves : (T T' : Task) → IsValid T → (part : HasRelevantAlone T T') → KeepsPart (changes_some part.vars) T T'
reduced_solves T T' valid part = subst (KeepsPart (changes_some part.vars) T) (sym part.same) (part_solves T valid part.vars part.are)

-- no variable is relevant to an empty goal
none_relevant : (T : Task) → T.goal ≡ [] → AreRelevant T []
none_relevant T none =
    record {
      sorted = λ k within. absurd (omega (arith, within));
      closed = record {
        goal = λ p in'. absurd (no_member p (subst (λ (ps : List Pair). Contains ps p) none in'));
        rules = λ r p in-r has in'. absurd cc;
        operators = λ o e p in-o in-e has in'. absurd cc;
        effects = λ o e p in-o in-e has in'. absurd cc;
        disagreements = λ o e a b in-o in-e has in-a in-b same other. absurd cc;
      };
      least = λ has all var among. absurd cc;
    }

-- no operator changes one of no variables
none_passes : (os : List Operator) → filter (changes_some []) os ≡ []
none_passes [] = refl
none_passes (o ∷ os) = none_passes os

-- where nothing is wanted, nothing need be done
nothing_done : (T : Task) → T.goal ≡ [] → HasSolution T [] 0
nothing_done T none =
    record { steps = []; end = T.state; leads = refl; meets = subst (λ (ps : List Pair). IsTrue (all_hold (values T T.state) ps)) (sym none) refl; same_names = refl; same_cost = refl }

-- the same of what the pass makes of it: with an empty goal these are no operators
pub part_of_reduced : (T T' : Task) (vars : List ℕ) → IsValid T → IsReduced T T' → AreRelevant T vars → KeepsPart (changes_some vars) T T'
part_of_reduced T T' vars valid is are =
    elim (empty_or_not T.goal) [
      | inl none ↦ λ steps end leads meets.
          let no_vars : vars ≡ [] = one_list T vars [] are (none_relevant T none) in
          let no_steps : filter (changes_some vars) steps ≡ [] = ap (λ (vs : List ℕ). filter (changes_some vs) steps) no_vars ∙ none_passes steps in
          subst (λ (os : List Operator). HasSolution T' (map (λ o. o.name) os) (sum (map (cost_in T) os))) (sym no_steps)
          (subst (λ (t : Task). HasSolution t [] 0) (sym (is.empty_goal none)) (nothing_done T none))
      | inr some ↦
          let part = is.some_goal some in
          let same : reduced vars T ≡ T' = ap (λ (vs : List ℕ). reduced vs T) (one_list T vars part.vars are part.are) ∙ sym part.same in
          subst (KeepsPart (changes_some vars) T) same (part_solves T valid vars are)
    ]

-- operators have the names and costs of the task's
pub reduced_costs : (T T' : Task) → IsReduced T T' → KeepsCosts T T'
reduced_costs T T' is =
    of_either (KeepsCosts T) T T' is (λ o' in'. (o', in', refl, refl)) (λ vars are o' in'.
    let from = map_member (reduced_operator vars) (filter (changes_some vars) T.operators) o' (sorted_member operator_cmp operator_total (map (reduced_operator vars) (filter (changes_some vars) T.operators)) o' in') in
    (from.0, (filter_member (changes_some vars) T.operators from.0 from.1).0, ap (λ (o : Operator). o.name) from.2, ap (λ (o : Operator). o.cost) from.2))

-- and it is one task
pub reduced_once : (T T' T'' : Task) → IsReduced T T' → IsReduced T T'' → T' ≡ T''
reduced_once T T' T'' is is' =
    elim (empty_or_not T.goal) [
      | inl none ↦ is.empty_goal none ∙ sym (is'.empty_goal none)
      | inr some ↦ let a = is.some_goal some in let b = is'.some_goal some in a.same ∙ ap (λ vars. reduced vars T) (one_list T a.vars b.vars a.are b.are) ∙ sym b.same
    ]
