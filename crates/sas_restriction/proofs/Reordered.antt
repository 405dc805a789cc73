-- The task with its variables in their order is its restriction to all of them in this order, with all values and all operators.
use Rattle.std.proofs.Common.{◌≡◌, ℕ, ◌<◌, true, false, ◌&&◌, ltb, List, map, filter, length, get_or, sym, ap, ◌∙◌, subst, inl, inr, arith}
use Rattle.std.specs.List.{Contains, All}
use Rattle.std.proofs.lemmas.Bool.{cases_lt, lt-ltb}
use Rattle.std.proofs.lemmas.List.{append-nil}
use Rattle.std.proofs.lemmas.List.Elements.{All-contains, Contains-get_or}
use Rattle.sas_task.specs.declared.parts.Pair.{Pair}
use Rattle.sas_task.specs.declared.parts.Group.{Group}
use Rattle.sas_task.specs.declared.parts.Operator.{Operator}
use Rattle.sas_task.specs.Task.{Task, of_parts}
use Rattle.sas_task.specs.Valid.{IsValid, IsFact, ComesBefore, IsValidGroup}
use Rattle.sas_task.specs.Keeps.{Keeps}
use Rattle.sas_task.specs.Orders.{pair_cmp, group_cmp, effect_cmp, operator_cmp, rule_cmp}
use Rattle.sas_task.specs.TotalOrders.{pair_total}
use Rattle.sas_task.proofs.States.{is_variable}
use Rattle.sas_task.proofs.ValidParts.{operator_law, effect_law, rule_law}
use Rattle.lists.proofs.Members.{map_member, member_map, filter_every}
use Rattle.sas_task.specs.InOrder.{in_order}
use Rattle.sas_task.proofs.InOrder.{ordered_member}
use Rattle.sas_task.proofs.Sorted.{member_sorted}
use Rattle.sas_restriction.specs.declared.chosen.Once.{Once}
use Rattle.sas_restriction.specs.Choice.{Choice, is_shown, new_val, variable_at, new_variable, new_group, effect_stays, new_effect, operator_stays, rule_stays, new_rule}
use Rattle.sas_restriction.specs.Restriction.{restriction, new_operator, new_groups}
use Rattle.sas_restriction.specs.Everything.{everything}
use Rattle.sas_restriction.specs.KeepsCosts.{KeepsCosts}
use Rattle.sas_restriction.specs.Reordered.{place_in, variable_order, renumbered_pair, renumbered_group, renumbered_effect, renumbered_operator, renumbered_rule, renumbered, IsReordered}
use Rattle.sas_restriction.proofs.Exact.{pair_exact}
use Rattle.sas_restriction.proofs.Numbers.{one_member, place_of}
use Rattle.sas_restriction.proofs.AllValues.{facts_left}
use Rattle.sas_restriction.proofs.Order.{below_count, order_has, shown, choice, may}
use Rattle.sas_restriction.proofs.Renumbered.{agree, AreShown, pairs_are, group_is, effect_left, effect_is, rule_left, rule_is, variable_is, start_is}
use Rattle.sas_restriction.proofs.Valid.{restriction_valid}
use Rattle.sas_restriction.proofs.Arranged.{restricts}
use Rattle.sas_restriction.proofs.Stands.{keeps}

-- repeats stay
abbrev pub all_stay : Once
all_stay = record { effects = false; operators = false; groups = false; rules = false }

module _ (T : Task) (valid : IsValid T) where
  abbrev order : List ℕ
  order = variable_order T

  abbrev C : Choice
  C = everything T (variable_order T)

  all_shown : (ps : List Pair) → All (IsFact T) ps → AreShown T valid order ps
  all_shown ps facts p in' = shown T p.var (is_variable T p.var p.val (All-contains (IsFact T) ps p facts in'))

  -- groups
  group_whole : (g : Group) → IsValidGroup T g → new_group C g ≡ renumbered_group order g
  group_whole g law = group_is T valid order g law ∙ ap (λ facts. renumbered_group order (record { facts = facts })) (filter_every (λ (p : Pair). is_shown C p.var) g.facts (all_shown g.facts law.facts))

  one_place : (v w : ℕ) → v < length T.variables → w < length T.variables → place_in order v ≡ place_in order w → v ≡ w
  one_place v w low-v low-w same = sym (place_of order v (order_has T v low-v)).1 ∙ ap (λ i. get_or order i 0) same ∙ (place_of order w (order_has T w low-w)).1

  two_left : (g : Group) → IsValidGroup T g → 1 < length (renumbered_group order g).facts
  two_left g law =
      elim (cases_lt 1 (length (renumbered_group order g).facts)) [
        | inl two ↦ two
        | inr short ↦ absurd (apart (law.sorted 0 1 none (omega arith) two) (one_member (renumbered_group order g).facts (renumbered_pair order x) (renumbered_pair order y) (there x in-x) (there y in-y) short))
      ]
    where
      none : Pair
      none = record { var = 0; val = 0 }

      two : 1 < length g.facts
      two = law.two_facts

      x : Pair
      x = get_or g.facts 0 none

      y : Pair
      y = get_or g.facts 1 none

      in-x : Contains g.facts x
      in-x = Contains-get_or g.facts 0 none (let t = two in omega arith)

      in-y : Contains g.facts y
      in-y = Contains-get_or g.facts 1 none two

      there : (p : Pair) → Contains g.facts p → Contains (renumbered_group order g).facts (renumbered_pair order p)
      there p in' =
          member_sorted pair_cmp pair_total (map (renumbered_pair order) g.facts) (λ a b in-a in-b. pair_exact a b) (renumbered_pair order p) (member_map (renumbered_pair order) g.facts p in')

      below : (p : Pair) → Contains g.facts p → p.var < length T.variables
      below p in' = is_variable T p.var p.val (All-contains (IsFact T) g.facts p law.facts in')

      apart : ComesBefore x y → renumbered_pair order x ≡ renumbered_pair order y → ⊥
      apart (inl less) same = let e : x.var ≡ y.var = one_place x.var y.var (below x in-x) (below y in-y) (ap (λ (p : Pair). p.var) same) in absurd (omega (arith, less, e))
      apart (inr more) same = let less = more.1 in let e : x.val ≡ y.val = ap (λ (p : Pair). p.val) same in absurd (omega (arith, less, e))

  groups_are : new_groups C T ≡ map (renumbered_group order) T.groups
  groups_are =
      ap (filter (λ (g : Group). ltb 1 (length g.facts))) (agree (new_group C) (renumbered_group order) T.groups (λ g in'. group_whole g (law g in')))
      ∙ filter_every (λ (g : Group). ltb 1 (length g.facts)) (map (renumbered_group order) T.groups) (λ g' in'.
      let from = map_member (renumbered_group order) T.groups g' in' in
      subst (λ (g : Group). ltb 1 (length g.facts) ≡ true) from.2 (lt-ltb 1 (length (renumbered_group order from.0).facts) (two_left from.0 (law from.0 from.1))))
    where
      law : (g : Group) → Contains T.groups g → IsValidGroup T g
      law g in' = All-contains (IsValidGroup T) T.groups g valid.groups in'

  -- operators
  operator_is : (o : Operator) → Contains T.operators o → new_operator all_stay C o ≡ renumbered_operator order o
  operator_is o in' =
      let conditions = pairs_are T valid order o.conditions (operator_law T valid o in').conditions.facts (all_shown o.conditions (operator_law T valid o in').conditions.facts) in
      let effects = ap (map (new_effect C)) (filter_every (effect_stays C) o.effects (λ e in-e. let law = effect_law T valid o in' e in-e in effect_left T valid order e law ∙ shown T e.var (is_variable T e.var e.after law.value)))
      ∙ agree (new_effect C) (renumbered_effect order) o.effects (λ e in-e. let law = effect_law T valid o in' e in-e in effect_is T valid order e law (all_shown e.conditions law.conditions.facts)) in
      λ i. record { name = o.name; conditions = conditions i; effects = in_order effect_cmp (effects i); cost = o.cost }

  operators_are : map (new_operator all_stay C) (filter (operator_stays C) T.operators) ≡ map (renumbered_operator order) T.operators
  operators_are =
      ap (map (new_operator all_stay C)) (filter_every (operator_stays C) T.operators (λ o in'. ap (λ b. b && true) (facts_left T o.conditions (operator_law T valid o in').conditions.facts)))
      ∙ agree (new_operator all_stay C) (renumbered_operator order) T.operators operator_is

  -- rules
  rules_are : map (new_rule C) (filter (rule_stays C) T.rules) ≡ map (renumbered_rule order) T.rules
  rules_are =
      ap (map (new_rule C)) (filter_every (rule_stays C) T.rules (λ r in'. rule_left T valid order r in' ∙ shown T r.var (is_variable T r.var r.after (rule_law T valid r in').value)))
      ∙ agree (new_rule C) (renumbered_rule order) T.rules (λ r in'. rule_is T valid order r in' (all_shown r.conditions (rule_law T valid r in').conditions.facts))

  pub reordered_is : renumbered order T ≡ restriction all_stay C T
  reordered_is i =
      of_parts T.metric
      (sym (append-nil (map (new_variable C T) order) ∙ agree (new_variable C T) (variable_at T) order (λ v in'. variable_is T valid order v)) i)
      (in_order group_cmp (sym groups_are i))
      (sym (append-nil (map (λ v. new_val C v (get_or T.state v 0)) order) ∙ agree (λ v. new_val C v (get_or T.state v 0)) (λ v. get_or T.state v 0) order (λ v in'. start_is T valid order v (below_count T v in'))) i)
      (sym (pairs_are T valid order T.goal valid.goal.facts (all_shown T.goal valid.goal.facts)) i)
      (in_order operator_cmp (sym operators_are i))
      (in_order rule_cmp (sym rules_are i))

-- so it is valid and may stand for the task
pub reordered_valid : (T T' : Task) → IsValid T → IsReordered T T' → IsValid T'
reordered_valid T T' valid is =
    let C = everything T (variable_order T) in
    subst IsValid (sym (is ∙ reordered_is T valid)) (restriction_valid C T (restriction all_stay C T) valid (choice T valid) (restricts all_stay C T valid (choice T valid)))

pub reordered_keeps : (T T' : Task) → IsValid T → IsReordered T T' → Keeps T T'
reordered_keeps T T' valid is =
    let C = everything T (variable_order T) in
    subst (Keeps T) (sym (is ∙ reordered_is T valid)) (keeps C T (restriction all_stay C T) valid (choice T valid) (restricts all_stay C T valid (choice T valid)) (may T valid))

-- and its operators have the names and costs of the task's
pub reordered_costs : (T T' : Task) → IsReordered T T' → KeepsCosts T T'
reordered_costs T T' is o' in' =
    let from = map_member (renumbered_operator (variable_order T)) T.operators o' (ordered_member operator_cmp (map (renumbered_operator (variable_order T)) T.operators) o' (subst (λ (t : Task). Contains t.operators o') is in')) in
    (from.0, from.1, ap (λ (o : Operator). o.name) from.2, ap (λ (o : Operator). o.cost) from.2)
