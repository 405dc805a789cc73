-- Tasks that differ only in the order of their parts have one restriction, where nothing stands in it twice.
use Rattle.std.proofs.Common.{◌≡◌, ℕ, true, ◌&&◌, ltb, List, map, filter, length, get_or, sym, ap, ◌∙◌, subst}
use Rattle.std.specs.List.{Contains}
use Rattle.std.specs.Cmp.{IsTotalOrder}
use Rattle.std.specs.Ordering.{nat_cmp}
use Rattle.std.specs.declared.cmp.Ordering.{Ordering}
use Rattle.std.specs.declared.cmp.Ordering.TheVariants.{Less}
use Rattle.std.proofs.lemmas.Bool.{and_parts}
use Rattle.lists.proofs.Members.{filter_member, member_filter, map_member, member_map}
use Rattle.sas_task.specs.declared.parts.Group.{Group}
use Rattle.sas_task.specs.declared.parts.Operator.{Operator}
use Rattle.sas_task.specs.declared.parts.Rule.{Rule}
use Rattle.sas_task.specs.Task.{Task, of_parts}
use Rattle.sas_task.specs.Alike.{IsAlike, AreAlike, RulesAgree}
use Rattle.sas_task.specs.Orders.{pairs_cmp, group_cmp, effect_cmp, operator_cmp, rule_cmp}
use Rattle.sas_task.specs.TotalOrders.{group_total, effect_total, operator_total, rule_total}
use Rattle.lists.specs.SameMembers.{SameMembers}
use Rattle.lists.proofs.SameMembers.{mapped, filtered}
use Rattle.sas_task.proofs.Alike.{task_back}
use Rattle.sas_task.specs.InOrder.{sorted, TellsApart}
use Rattle.lists.proofs.Ordered.{same_ordered}
use Rattle.sas_task.proofs.Sorted.{sorted_member, member_sorted, sorted_ordered}
use Rattle.sas_restriction.specs.declared.chosen.Once.{Once}
use Rattle.sas_restriction.specs.Choice.{Choice, is_shown, all_left, new_var, new_val, new_pairs, new_group, effect_stays, new_effect, operator_stays, rule_stays, new_rule}
use Rattle.sas_restriction.specs.Restriction.{new_operator, new_groups, new_operators, new_rules, restriction}
use Rattle.sas_restriction.proofs.Exact.{group_exact, effect_exact, operator_exact, rule_exact}
use Rattle.sas_restriction.proofs.Numbers.{any_member, place_of}
use Rattle.lists.proofs.Exact.{then_equal, nat_exact}

-- ---- lists in order

-- lists with the same members are one list in order
same_sorted : {X : Type 0} (cmp : X → X → Ordering) → IsTotalOrder cmp → (xs ys : List X) → TellsApart cmp xs → SameMembers xs ys → sorted cmp xs ≡ sorted cmp ys
same_sorted cmp total xs ys apart same =
    same_ordered (λ x y. cmp x y ≡ Less) (λ x y less more. let e = total.antisymm x y in absurd cc) (sorted cmp xs) (sorted cmp ys) (sorted_ordered cmp total xs) (sorted_ordered cmp total ys)
    (λ z in'. member_sorted cmp total ys (λ x y in-x in-y. apart x y ((same x).1 in-x) ((same y).1 in-y)) z ((same z).0 (sorted_member cmp total xs z in')))
    (λ z in'. member_sorted cmp total xs apart z ((same z).1 (sorted_member cmp total ys z in')))

-- ---- restrictions

-- nothing stands there twice
abbrev pub each_once : Once
each_once = record { effects = true; operators = true; groups = true; rules = true }

-- the choice doesn't tell alike operators apart
abbrev pub IsBlind : Choice → Type 0
IsBlind choice = (a b : Operator) → IsAlike a b → choice.operators a ≡ choice.operators b

module _ (C : Choice) where
  -- variables that are shown have different numbers
  pub one_shown : (v w : ℕ) → is_shown C v ≡ true → is_shown C w ≡ true → new_var C v ≡ new_var C w → v ≡ w
  one_shown v w shown shown' same =
      sym (place_of C.vars v (any_member v C.vars shown)).1 ∙ ap (λ k. get_or C.vars k 0) same ∙ (place_of C.vars w (any_member w C.vars shown')).1

  old_rule : (T : Task) (r' : Rule) → Contains (new_rules C T) r' → (r : Rule) × Contains T.rules r × (is_shown C r.var ≡ true) × (new_rule C r ≡ r')
  old_rule T r' in' =
      let m = map_member (new_rule C) (filter (rule_stays C) T.rules) r' in' in
      let f = filter_member (rule_stays C) T.rules m.0 m.1 in
      (m.0, f.0, (and_parts (all_left C m.0.conditions) (is_shown C m.0.var) f.1).1, m.2)

  -- a new rule is known by its variable and its conditions
  pub rules_apart : (T : Task) → RulesAgree T → TellsApart rule_cmp (new_rules C T)
  rules_apart T agree a b in-a in-b equal =
      let r = old_rule T a in-a in
      let q = old_rule T b in-b in
      let same-var : a.var ≡ b.var = nat_exact a.var b.var (then_equal (nat_cmp a.var b.var) (pairs_cmp a.conditions b.conditions) equal).0 in
      let one : r.0.var ≡ q.0.var = one_shown r.0.var q.0.var r.2 q.2 (ap (λ (r : Rule). r.var) r.3 ∙ same-var ∙ sym (ap (λ (r : Rule). r.var) q.3)) in
      let both = agree r.0 q.0 r.1 q.1 one in
      rule_exact a b
      (sym (ap (λ (r : Rule). r.before) r.3) ∙ ap (new_val C r.0.var) both.0 ∙ ap (λ w. new_val C w q.0.before) one ∙ ap (λ (r : Rule). r.before) q.3)
      (sym (ap (λ (r : Rule). r.after) r.3) ∙ ap (new_val C r.0.var) both.1 ∙ ap (λ w. new_val C w q.0.after) one ∙ ap (λ (r : Rule). r.after) q.3)
      equal

  one_operator : (a b : Operator) → IsAlike a b → new_operator each_once C a ≡ new_operator each_once C b
  one_operator a b is =
      let effects = λ (o : Operator). sorted effect_cmp (map (new_effect C) (filter (effect_stays C) o.effects)) in
      let same : effects a ≡ effects b =
      same_sorted effect_cmp effect_total (map (new_effect C) (filter (effect_stays C) a.effects)) (map (new_effect C) (filter (effect_stays C) b.effects))
      (λ x y in-x in-y. effect_exact x y)
      (mapped (new_effect C) (filter (effect_stays C) a.effects) (filter (effect_stays C) b.effects) (filtered (effect_stays C) a.effects b.effects is.effects)) in
      λ i. record { name = is.name i; conditions = new_pairs C (is.conditions i); effects = same i; cost = is.cost i }

  module _ (blind : IsBlind C) where
    stays_alike : (a b : Operator) → IsAlike a b → operator_stays C a ≡ operator_stays C b
    stays_alike a b is = ap (λ ps. all_left C ps && C.operators a) is.conditions ∙ ap (λ left. all_left C b.conditions && left) (blind a b is)

    operators_part : (a b : Task) → AreAlike a b → (o : Operator) → Contains (new_operators each_once C a) o → Contains (new_operators each_once C b) o
    operators_part a b is o in' =
        let m = map_member (new_operator each_once C) (filter (operator_stays C) a.operators) o in' in
        let f = filter_member (operator_stays C) a.operators m.0 m.1 in
        let other = is.operators m.0 f.0 in
        subst (λ w. Contains (new_operators each_once C b) w) (sym (one_operator m.0 other.operator other.alike) ∙ m.2)
        (member_map (new_operator each_once C) (filter (operator_stays C) b.operators) other.operator
        (member_filter (operator_stays C) b.operators other.operator other.listed (sym (stays_alike m.0 other.operator other.alike) ∙ f.1)))

    pub one_restriction : (a b : Task) → RulesAgree a → AreAlike a b → restriction each_once C a ≡ restriction each_once C b
    one_restriction a b agree is = first ∙ ap (restriction each_once C) mixed-is
      where
        -- the first task with the second one's groups, operators and rules
        mixed : Task
        mixed = of_parts a.metric a.variables b.groups a.state a.goal b.operators b.rules

        mixed-is : mixed ≡ b
        mixed-is i = of_parts (is.metric i) (is.variables i) b.groups (is.state i) (is.goal i) b.operators b.rules

        groups-same : sorted group_cmp (new_groups C a) ≡ sorted group_cmp (new_groups C b)
        groups-same =
            same_sorted group_cmp group_total (new_groups C a) (new_groups C b) (λ x y in-x in-y. group_exact x y)
            (filtered (λ (g : Group). ltb 1 (length g.facts)) (map (new_group C) a.groups) (map (new_group C) b.groups) (mapped (new_group C) a.groups b.groups is.groups))

        operators-same : sorted operator_cmp (new_operators each_once C a) ≡ sorted operator_cmp (new_operators each_once C b)
        operators-same =
            same_sorted operator_cmp operator_total (new_operators each_once C a) (new_operators each_once C b) (λ x y in-x in-y. operator_exact x y)
            (λ o. (operators_part a b is o, operators_part b a (task_back a b is) o))

        rules-same : sorted rule_cmp (new_rules C a) ≡ sorted rule_cmp (new_rules C b)
        rules-same =
            same_sorted rule_cmp rule_total (new_rules C a) (new_rules C b) (rules_apart a agree)
            (mapped (new_rule C) (filter (rule_stays C) a.rules) (filter (rule_stays C) b.rules) (filtered (rule_stays C) a.rules b.rules is.rules))

        P : Task
        P = restriction each_once C a

        first : restriction each_once C a ≡ restriction each_once C mixed
        first i = of_parts P.metric P.variables (groups-same i) P.state P.goal (operators-same i) (rules-same i)
