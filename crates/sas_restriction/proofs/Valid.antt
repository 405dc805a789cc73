-- A restriction of a valid task is valid.
use Rattle.std.proofs.Common.{◌≡◌, ℕ, ◌+◌, ◌^◌, ◌<◌, ◌≤◌, true, ◌&&◌, List, [], ◌∷◌, map, filter, length, get_or, Option, Some, None, ◌⊎◌, refl, sym, ap, ◌∙◌, subst, inl, inr, arith}
use Rattle.std.specs.Prelude.{IsSome, IsNone, IfSome, IsSomeAnd, codes}
use Rattle.std.specs.List.{slice_get, Contains, All, AllPairs}
use Rattle.std.specs.List.Sorted.{IsStrictlyIncreasing}
use Rattle.std.specs.Option.{option_map_or}
use Rattle.std.specs.declared.cmp.Ordering.{Ordering}
use Rattle.std.specs.declared.cmp.Ordering.TheVariants.{Less, Equal, Greater}
use Rattle.std.specs.Ordering.{nat_cmp, ordering_then}
use Rattle.std.proofs.lemmas.Bool.{cases_lt, and_parts}
use Rattle.std.proofs.lemmas.Cmp.{ranked}
use Rattle.std.proofs.lemmas.Option.{slice_get_within, get_or_from_slice_get}
use Rattle.std.proofs.lemmas.List.{length-map}
use Rattle.std.proofs.lemmas.List.Elements.{All-contains, Contains-append_cases, Contains-get_or, All-cons, All-nil}
use Rattle.std.proofs.lemmas.List.Kept.{AllPairs-from_increasing}
use Rattle.sas_task.specs.declared.parts.Pair.{Pair}
use Rattle.sas_task.specs.declared.parts.Variable.{Variable}
use Rattle.sas_task.specs.declared.parts.Group.{Group}
use Rattle.sas_task.specs.declared.parts.Effect.{Effect}
use Rattle.sas_task.specs.declared.parts.Operator.{Operator}
use Rattle.sas_task.specs.declared.parts.Rule.{Rule}
use Rattle.sas_task.specs.Task.{Task}
use Rattle.sas_task.specs.Valid.{IsValid, IsValue, IsFact, AreConditions, IsValidVariable, ComesBefore, IsValidGroup, IsValidEffect, IsValidOperator, IsBelow, IsValidRule, layer_of}
use Rattle.sas_task.specs.Alike.{RulesAgree}
use Rattle.sas_task.specs.Orders.{pair_cmp}
use Rattle.sas_task.specs.TotalOrders.{pair_total}
use Rattle.sas_task.proofs.ValidParts.{operator_law, rule_law}
use Rattle.lists.proofs.Members.{no_member, all_from_members, member_single, filter_member, map_member}
use Rattle.sas_restriction.proofs.Alike.{one_shown}
use Rattle.sas_restriction.proofs.Pairs.{of_pairs, pairs_mapped, pairs_unmapped}
use Rattle.sas_task.specs.InOrder.{sorted}
use Rattle.sas_restriction.specs.Choice.{Choice, IsChoice, is_shown, is_left, all_left, new_var, new_val, new_pair, new_pairs, variable_at, new_variable, fact_stays, new_group, effect_stays, new_effect, rule_stays, new_rule, holder_variable}
use Rattle.sas_restriction.specs.Restriction.{IsNewOperator, Restricts}
use Rattle.sas_task.proofs.Sorted.{sorted_member, sorted_ordered}
use Rattle.sas_restriction.proofs.Numbers.{count_some, any_member}
use Rattle.sas_restriction.proofs.Shape.{variable_low, variable_last, layer_low, count_is, state_count, state_low, state_high}
use Rattle.sas_restriction.proofs.Shown.{old, shown_at, shown_below, old_at, val_apart, good_of, pair_of}
use Rattle.lists.proofs.Exact.{nat_exact}
use Rattle.lists.specs.Names.{IsName}

pub increasing : (xs : List ℕ) → AllPairs (λ x y. x < y) xs → IsStrictlyIncreasing xs
increasing xs all k below = all k (k + 1) 0 (omega arith) below

then_less : (a b : Ordering) → ordering_then a b ≡ Less → (a ≡ Less) ⊎ ((a ≡ Equal) × (b ≡ Less))
then_less Less b e = inl refl
then_less Equal b e = inr (refl, e)
then_less Greater b e = cc

-- the order of pairs
pair_less : (p q : Pair) → pair_cmp p q ≡ Less → ComesBefore p q
pair_less p q e =
    elim (then_less (nat_cmp p.var q.var) (nat_cmp p.val q.val) e) [
      | inl var ↦ inl (ranked p.var q.var Less (sym var))
      | inr both ↦ inr (nat_exact p.var q.var both.0, ranked p.val q.val Less (sym both.1))
    ]

pub sorted_pairs : (ps : List Pair) → AllPairs ComesBefore (sorted pair_cmp ps)
sorted_pairs ps i j d lt below = pair_less (get_or (sorted pair_cmp ps) i d) (get_or (sorted pair_cmp ps) j d) (sorted_ordered pair_cmp pair_total ps i j d lt below)

-- conditions name a variable once
one_condition : (T : Task) (ps : List Pair) → AreConditions T ps → (p q : Pair) → Contains ps p → Contains ps q → p.var ≡ q.var → p ≡ q
one_condition T ps law p q in-p in-q same =
    elim (of_pairs (λ (a b : Pair). a.var < b.var) ps p q (pairs_unmapped (λ x y. x < y) (λ (p : Pair). p.var) ps (AllPairs-from_increasing (map (λ (p : Pair). p.var) ps) law.sorted)) in-p in-q) [
      | inl one ↦ one
      | inr either ↦ elim either [ inl less ↦ absurd (omega arith) | inr more ↦ absurd (omega arith) ]
    ]

-- the holder's facts have names
names_of_holder : All IsName holder_variable.facts
names_of_holder =
    All-cons IsName (codes "Atom goal@holder()") (codes "NegatedAtom goal@holder()" ∷ []) refl
    (All-cons IsName (codes "NegatedAtom goal@holder()") [] refl (All-nil IsName))

-- the rules of one variable have one new value
pub one_after : (T : Task) → IsValid T → (r q : Rule) → Contains T.rules r → Contains T.rules q → r.var ≡ q.var → r.after ≡ q.after
one_after T valid r q in-r in-q same =
    elim (of_pairs (λ (a b : Rule). a.var ≡ b.var → a.after ≡ b.after) T.rules r q valid.one_after in-r in-q) [
      | inl one ↦ ap (λ (z : Rule). z.after) one
      | inr either ↦ elim either [ inl ahead ↦ ahead same | inr behind ↦ sym (behind (sym same)) ]
    ]

pub valid_rules : (T : Task) → IsValid T → RulesAgree T
valid_rules T valid a b in-a in-b same = (
  (rule_law T valid a in-a).default ∙ ap (λ v. get_or T.state v 0) same ∙ sym (rule_law T valid b in-b).default,
  one_after T valid a b in-a in-b same,
)

module _ (C : Choice) (T T' : Task) (valid : IsValid T) (choice : IsChoice C T) (r : Restricts C T T') where
  -- new facts
  fact_new : (v x : ℕ) → is_shown C v ≡ true → Contains (C.values v) x → IsValue T' (new_var C v) (new_val C v x)
  fact_new v x shown left =
      let at = shown_at C T choice v shown in
      let got : slice_get T'.variables (new_var C v) ≡ Some (new_variable C T v) = variable_low C T T' r (new_var C v) at.0 ∙ ap (λ w. Some (new_variable C T w)) at.1 in
      let less : new_val C v x < length (C.values v) = count_some (C.values v) x left in
      subst (λ o. IsSomeAnd o (λ (u : Variable). new_val C v x < length u.facts)) (sym got) (rw (length-map (C.values v) (λ val. get_or (variable_at T v).facts val [])) less)

  layer_new : (v : ℕ) → is_shown C v ≡ true → layer_of T' (new_var C v) ≡ layer_of T v
  layer_new v shown = let at = shown_at C T choice v shown in layer_low C T T' r (new_var C v) at.0 ∙ ap (layer_of T) at.1

  -- new conditions
  conditions_new : (ps : List Pair) → AreConditions T ps → all_left C ps ≡ true → AreConditions T' (new_pairs C ps)
  conditions_new ps law left =
      record {
        facts = all_from_members (IsFact T') (new_pairs C ps) (λ p' in'.
            let p = pair_of C T choice ps p' in' in
            subst (IsFact T') p.3 (fact_new p.0.var p.0.val p.2 (good_of C T choice ps left p.0 p.1)));
        sorted = increasing (map (λ (p : Pair). p.var) (new_pairs C ps)) (pairs_mapped ComesBefore (λ x y. x < y) (λ (p : Pair). p.var) (new_pairs C ps) (sorted_pairs (map (new_pair C) (filter (λ (p : Pair). is_shown C p.var) ps))) before);
      }
    where
      before : (a b : Pair) → Contains (new_pairs C ps) a → Contains (new_pairs C ps) b → ComesBefore a b → a.var < b.var
      before a b in-a in-b (inl less) = less
      before a b in-a in-b (inr same) =
          let p = pair_of C T choice ps a in-a in
          let q = pair_of C T choice ps b in-b in
          let vars : new_var C p.0.var ≡ new_var C q.0.var = ap (λ (p : Pair). p.var) p.3 ∙ same.0 ∙ sym (ap (λ (p : Pair). p.var) q.3) in
          let one : p.0 ≡ q.0 = one_condition T ps law p.0 q.0 p.1 q.1 (one_shown C p.0.var q.0.var p.2 q.2 vars) in
          let vals : a.val ≡ b.val = ap (λ (p : Pair). p.val) (sym p.3 ∙ ap (new_pair C) one ∙ q.3) in
          let less : a.val < b.val = same.1 in
          absurd (omega arith)

  effect_valid : (e : Effect) → IsValidEffect T e → effect_stays C e ≡ true → IsValidEffect T' (new_effect C e)
  effect_valid e law is =
      let parts = and_parts (all_left C e.conditions) (is_left C e.var e.after && is_shown C e.var) is in
      let more = and_parts (is_left C e.var e.after) (is_shown C e.var) parts.1 in
      record {
        conditions = conditions_new e.conditions law.conditions parts.0;
        value = fact_new e.var e.after more.1 (any_member e.after (C.values e.var) more.0);
        basic = subst IsNone (sym (layer_new e.var more.1)) law.basic;
      }

  operator_valid : (o o' : Operator) → IsValidOperator T o → all_left C o.conditions ≡ true → IsNewOperator C o o' → IsValidOperator T' o'
  operator_valid o o' law left is =
      record {
        name = subst IsName (sym is.same_name) law.name;
        conditions = subst (AreConditions T') (sym is.conditions) (conditions_new o.conditions law.conditions left);
        effects = all_from_members (IsValidEffect T') o'.effects (λ e' in-e.
            let e = is.no_other e' in-e in
            subst (IsValidEffect T') e.3 (effect_valid e.0 (All-contains (IsValidEffect T) o.effects e.0 law.effects e.1) e.2));
        cost = subst (λ c. c ≤ 2147483647) (sym is.same_cost) law.cost;
        unit_cost = λ unit. is.same_cost ∙ law.unit_cost (sym r.metric ∙ unit);
      }

  operators_valid : All (IsValidOperator T') T'.operators
  operators_valid =
      all_from_members (IsValidOperator T') T'.operators (λ o' in'.
      let o = r.operators o' in' in
      operator_valid o.0 o' (operator_law T valid o.0 o.1) (and_parts (all_left C o.0.conditions) (C.operators o.0) o.2).0 o.3)

  rule_valid : (q : Rule) → Contains T.rules q → rule_stays C q ≡ true → IsValidRule T' (new_rule C q)
  rule_valid q in' stays =
      record {
        conditions = conditions_new q.conditions law.conditions parts.0;
        derived = subst IsSome (sym (layer_new q.var parts.1)) law.derived;
        value = fact_new q.var q.after parts.1 after-left;
        default = ap (new_val C q.var) law.default ∙ sym (state_low C T T' r (new_var C q.var) at.0 ∙ ap (λ w. new_val C w (get_or T.state w 0)) at.1);
        changes = λ same. law.changes (law.default ∙ val_apart C T choice q.var (get_or T.state q.var 0) q.after start-left after-left (ap (new_val C q.var) (sym law.default) ∙ same));
        below = all_from_members (IsBelow T' (new_var C q.var)) (new_pairs C q.conditions) (λ p' in-p.
            let p = pair_of C T choice q.conditions p' in-p in
            let low = All-contains (IsBelow T q.var) q.conditions p.0 law.below p.1 in
            subst (IsBelow T' (new_var C q.var)) p.3
            (subst (λ o. IfSome o (λ low. IsSomeAnd (layer_of T' (new_var C q.var)) (λ high. low < high))) (sym (layer_new p.0.var p.2))
            (subst (λ o. IfSome (layer_of T p.0.var) (λ low. IsSomeAnd o (λ high. low < high))) (sym (layer_new q.var parts.1)) low)));
      }
    where
      law : IsValidRule T q
      law = rule_law T valid q in'

      parts : (all_left C q.conditions ≡ true) × (is_shown C q.var ≡ true)
      parts = and_parts (all_left C q.conditions) (is_shown C q.var) stays

      at : (new_var C q.var < length C.vars) × (old C T choice (new_var C q.var) ≡ q.var)
      at = shown_at C T choice q.var parts.1

      start-left : Contains (C.values q.var) (get_or T.state q.var 0)
      start-left = choice.initial q.var (shown_below C T choice q.var parts.1)

      after-left : Contains (C.values q.var) q.after
      after-left = choice.by_rules q in' stays

  rules_valid : All (IsValidRule T') T'.rules
  rules_valid =
      all_from_members (IsValidRule T') T'.rules (λ q' in'.
      let q = r.rules q' in' in
      subst (IsValidRule T') q.3 (rule_valid q.0 q.1 q.2))

  rules_agree : (a b : Rule) → Contains T'.rules a → Contains T'.rules b → a.var ≡ b.var → a.after ≡ b.after
  rules_agree a b in-a in-b same =
      let p = r.rules a in-a in
      let q = r.rules b in-b in
      let sp = and_parts (all_left C p.0.conditions) (is_shown C p.0.var) p.2 in
      let sq = and_parts (all_left C q.0.conditions) (is_shown C q.0.var) q.2 in
      let one : p.0.var ≡ q.0.var = one_shown C p.0.var q.0.var sp.1 sq.1 (ap (λ (r : Rule). r.var) p.3 ∙ same ∙ sym (ap (λ (r : Rule). r.var) q.3)) in
      sym (ap (λ (r : Rule). r.after) p.3) ∙ ap (new_val C p.0.var) (one_after T valid p.0 q.0 p.1 q.1 one) ∙ ap (λ w. new_val C w q.0.after) one ∙ ap (λ (r : Rule). r.after) q.3

  -- the holder
  small : (x : ℕ) → C.holder ≡ Some x → x < 2
  small x is = subst (λ o. IfSome o (λ start. start < 2)) is choice.two_valued

  holder_fact : (x y : ℕ) → C.holder ≡ Some x → y < 2 → IsValue T' (length C.vars) y
  holder_fact x y is less = subst (λ o. IsSomeAnd o (λ (u : Variable). y < length u.facts)) (sym (variable_last C T T' r x is)) (omega arith)

  goal_of : Option ℕ → List Pair
  goal_of o = option_map_or (λ start. record { var = length C.vars; val = 0 } ∷ []) o (new_pairs C T.goal)

  goal_valid : AreConditions T' T'.goal
  unfolding goal_of
  goal_valid = subst (AreConditions T') (sym r.goal) (by_holder C.holder refl)
    where
      by_holder : (o : Option ℕ) → C.holder ≡ o → AreConditions T' (goal_of o)
      by_holder None is = conditions_new T.goal valid.goal (choice.goal_left is)
      by_holder (Some x) is =
          record {
            facts = all_from_members (IsFact T') (record { var = length C.vars; val = 0 } ∷ []) (λ p in'. subst (IsFact T') (member_single (record { var = length C.vars; val = 0 }) p in') (holder_fact x 0 is (omega arith)));
            sorted = λ k below. absurd (omega arith);
          }

  state_valid : (v' : ℕ) → v' < length T'.variables → IsValue T' v' (get_or T'.state v' 0)
  state_valid v' below = by_cases (cases_lt v' (length C.vars)) C.holder refl
    where
      by_cases : (v' < length C.vars) ⊎ (length C.vars ≤ v') → (o : Option ℕ) → C.holder ≡ o → IsValue T' v' (get_or T'.state v' 0)
      by_cases (inl low) o is =
          let at = old_at C T choice v' low in
          let w = old C T choice v' in
          subst (IsValue T' v') (sym (state_low C T T' r v' low)) (subst (λ u. IsValue T' u (new_val C w (get_or T.state w 0))) at.1 (fact_new w (get_or T.state w 0) at.0 (choice.initial w (shown_below C T choice w at.0))))
      by_cases (inr high) None is =
          let c : length T'.variables ≡ length C.vars + 0 = count_is C T T' r ∙ ap (λ (o : Option ℕ). length C.vars + option_map_or (λ start. 1) o 0) is in
          absurd (omega arith)
      by_cases (inr high) (Some x) is =
          let c : length T'.variables ≡ length C.vars + 1 = count_is C T T' r ∙ ap (λ (o : Option ℕ). length C.vars + option_map_or (λ start. 1) o 0) is in
          let last : length C.vars ≡ v' = omega arith in
          let start : get_or T'.state v' 0 ≡ x = state_high C T T' r v' high below ∙ ap (λ (o : Option ℕ). option_map_or (λ h. h) o 0) is in
          subst (IsValue T' v') (sym start) (subst (λ w. IsValue T' w x) last (holder_fact x x is (small x is)))

  variables_valid : All IsValidVariable T'.variables
  variables_valid =
      subst (All IsValidVariable) (sym r.variables)
      (all_from_members IsValidVariable _ (λ u in'.
      elim (Contains-append_cases (map (new_variable C T) C.vars) (option_map_or (λ start. holder_variable ∷ []) C.holder []) u in') [
        | inl here ↦
            let m = map_member (new_variable C T) C.vars u here in
            subst IsValidVariable m.2 (one m.0 m.1)
        | inr last ↦ of_holder C.holder u last
      ]))
    where
      of_holder : (o : Option ℕ) (u : Variable) → Contains (option_map_or (λ start. holder_variable ∷ []) o []) u → IsValidVariable u
      of_holder None u in' = absurd (no_member u in')
      of_holder (Some x) u in' = subst IsValidVariable (member_single holder_variable u in') (record { layer = tt; has_value = omega arith; names = names_of_holder })

      -- a value of a variable has a name
      named : (v x : ℕ) (o : Option Variable) → slice_get T.variables v ≡ o → IsSomeAnd o (λ (u : Variable). x < length u.facts) → IsName (get_or (option_map_or (λ (u : Variable). u) o (record { layer = None; facts = [] })).facts x [])
      named v x None at is = absurd is
      named v x (Some u) at is =
          let here : Contains T.variables u = (v, slice_get_within T.variables v u at, get_or_from_slice_get T.variables v u u at) in
          (All-contains IsValidVariable T.variables u valid.variables here).names x [] is

      layered : (v : ℕ) (o : Option Variable) → slice_get T.variables v ≡ o → IfSome (option_map_or (λ (u : Variable). u) o (record { layer = None; facts = [] })).layer (λ layer. layer < 2 ^ 64)
      layered v None at = tt
      layered v (Some u) at = (All-contains IsValidVariable T.variables u valid.variables (v, slice_get_within T.variables v u at, get_or_from_slice_get T.variables v u u at)).layer

      one : (v : ℕ) → Contains C.vars v → IsValidVariable (new_variable C T v)
      one v in' =
          let below : v < length T.variables = All-contains (λ v. v < length T.variables) C.vars v choice.inside in' in
          let some = count_some (C.values v) (get_or T.state v 0) (choice.initial v below) in
          record {
            layer = layered v (slice_get T.variables v) refl;
            has_value = rw (length-map (C.values v) (λ val. get_or (variable_at T v).facts val [])) (omega arith);
            names = all_from_members IsName (new_variable C T v).facts (λ name in-n.
                let m = map_member (λ val. get_or (variable_at T v).facts val []) (C.values v) name in-n in
                subst IsName m.2 (named v m.0 (slice_get T.variables v) refl (choice.are_values v m.0 below m.1)));
          }

  groups_valid : All (IsValidGroup T') T'.groups
  groups_valid =
      all_from_members (IsValidGroup T') T'.groups (λ g' in'.
      let g = r.groups g' in' in
      let two : 2 ≤ length g'.facts = All-contains (λ (g : Group). 2 ≤ length g.facts) T'.groups g' r.two_facts in' in
      subst (IsValidGroup T') g.2
      (record {
        facts = all_from_members (IsFact T') (new_group C g.0).facts (λ p' in-p.
            let m = map_member (new_pair C) (filter (fact_stays C) g.0.facts) p' (sorted_member pair_cmp pair_total (map (new_pair C) (filter (fact_stays C) g.0.facts)) p' in-p) in
            let f = filter_member (fact_stays C) g.0.facts m.0 m.1 in
            let parts = and_parts (is_left C m.0.var m.0.val) (is_shown C m.0.var) f.1 in
            subst (IsFact T') m.2 (fact_new m.0.var m.0.val parts.1 (any_member m.0.val (C.values m.0.var) parts.0)));
        sorted = sorted_pairs (map (new_pair C) (filter (fact_stays C) g.0.facts));
        two_facts = subst (λ (g : Group). 2 ≤ length g.facts) (sym g.2) two;
      }))

  pub restriction_valid : IsValid T'
  restriction_valid =
      record {
        variables = variables_valid;
        groups = groups_valid;
        one_value = state_count C T T' r;
        state = state_valid;
        goal = goal_valid;
        operators = operators_valid;
        rules = rules_valid;
        one_after = λ i j d lt below. rules_agree (get_or T'.rules i d) (get_or T'.rules j d) (Contains-get_or T'.rules i d (let b : j < length T'.rules = below in omega arith)) (Contains-get_or T'.rules j d below);
      }
