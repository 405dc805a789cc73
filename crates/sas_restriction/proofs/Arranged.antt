-- The restriction with all lists in order is one.
use Rattle.std.proofs.Common.{◌≡◌, ◌<◌, ◌≤◌, true, ltb, map, filter, length, refl, subst, arith}
use Rattle.std.specs.List.{Contains}
use Rattle.std.proofs.lemmas.Bool.{ltb-true}
use Rattle.sas_task.specs.declared.parts.Group.{Group}
use Rattle.sas_task.specs.declared.parts.Operator.{Operator}
use Rattle.sas_task.specs.declared.parts.Rule.{Rule}
use Rattle.sas_task.specs.Task.{Task}
use Rattle.sas_task.specs.Valid.{IsValid}
use Rattle.sas_task.specs.Orders.{group_cmp, effect_cmp, operator_cmp, rule_cmp}
use Rattle.sas_task.specs.TotalOrders.{group_total, effect_total, operator_total, rule_total}
use Rattle.lists.proofs.Members.{all_from_members, filter_member, member_filter, map_member, member_map}
use Rattle.sas_restriction.specs.Choice.{Choice, IsChoice, new_group, effect_stays, new_effect, operator_stays, rule_stays, new_rule}
use Rattle.sas_restriction.specs.declared.chosen.Once.{Once}
use Rattle.sas_restriction.specs.Restriction.{IsNewOperator, Restricts, new_operator, new_groups, new_operators, new_rules, restriction}
use Rattle.sas_task.proofs.Sorted.{arranged_member, member_arranged}
use Rattle.sas_restriction.proofs.Alike.{rules_apart}
use Rattle.sas_restriction.proofs.Exact.{effect_exact, operator_exact}
use Rattle.sas_restriction.proofs.Valid.{valid_rules}

pub new_operator_is : (once : Once) (C : Choice) (o : Operator) → IsNewOperator C o (new_operator once C o)
new_operator_is once C o =
    record {
      same_name = refl;
      same_cost = refl;
      conditions = refl;
      each_effect = λ e in' stays.
          member_arranged effect_cmp effect_total once.effects (map (new_effect C) (filter (effect_stays C) o.effects)) (λ a b in-a in-b. effect_exact a b) (new_effect C e)
          (member_map (new_effect C) (filter (effect_stays C) o.effects) e (member_filter (effect_stays C) o.effects e in' stays));
      no_other = λ e' in'.
          let m = map_member (new_effect C) (filter (effect_stays C) o.effects) e' (arranged_member effect_cmp effect_total once.effects (map (new_effect C) (filter (effect_stays C) o.effects)) e' in') in
          let f = filter_member (effect_stays C) o.effects m.0 m.1 in
          (m.0, f.0, f.1, m.2);
    }

module _ (once : Once) (C : Choice) (T : Task) (valid : IsValid T) (choice : IsChoice C T) where
  old_rule : (r' : Rule) → Contains (new_rules C T) r' → (r : Rule) × Contains T.rules r × (rule_stays C r ≡ true) × (new_rule C r ≡ r')
  old_rule r' in' =
      let m = map_member (new_rule C) (filter (rule_stays C) T.rules) r' in' in
      let f = filter_member (rule_stays C) T.rules m.0 m.1 in
      (m.0, f.0, f.1, m.2)

  pub restricts : Restricts C T (restriction once C T)
  restricts =
      record {
        metric = refl;
        variables = refl;
        state = refl;
        goal = refl;
        groups = λ g' in'.
            let m = map_member (new_group C) T.groups g' (left g' in').0 in
            (m.0, m.1, m.2);
        two_facts = all_from_members (λ (g : Group). 2 ≤ length g.facts) (restriction once C T).groups (λ g' in'.
            let two : 1 < length g'.facts = ltb-true 1 (length g'.facts) (left g' in').1 in
            omega arith);
        operators = λ o' in'.
            let m = map_member (new_operator once C) (filter (operator_stays C) T.operators) o' (arranged_member operator_cmp operator_total once.operators (new_operators once C T) o' in') in
            let f = filter_member (operator_stays C) T.operators m.0 m.1 in
            (m.0, f.0, f.1, subst (IsNewOperator C m.0) m.2 (new_operator_is once C m.0));
        each_operator = λ o in' stays. (
          new_operator once C o,
          member_arranged operator_cmp operator_total once.operators (new_operators once C T) (λ a b in-a in-b. operator_exact a b) (new_operator once C o)
              (member_map (new_operator once C) (filter (operator_stays C) T.operators) o (member_filter (operator_stays C) T.operators o in' stays)),
          new_operator_is once C o,
        );
        rules = λ r' in'. old_rule r' (arranged_member rule_cmp rule_total once.rules (new_rules C T) r' in');
        each_rule = λ r in' stays.
            member_arranged rule_cmp rule_total once.rules (new_rules C T) (rules_apart C T (valid_rules T valid)) (new_rule C r)
            (member_map (new_rule C) (filter (rule_stays C) T.rules) r (member_filter (rule_stays C) T.rules r in' stays));
      }
    where
      left : (g' : Group) → Contains (restriction once C T).groups g' → Contains (map (new_group C) T.groups) g' × (ltb 1 (length g'.facts) ≡ true)
      left g' in' = filter_member (λ (g : Group). ltb 1 (length g.facts)) (map (new_group C) T.groups) g' (arranged_member group_cmp group_total once.groups (new_groups C T) g' in')
