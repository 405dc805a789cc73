-- The steps of a restriction follow those of its task, and the other way round.
use Rattle.std.proofs.Common.{◌≡◌, ◌≢◌, ℕ, ◌+◌, ◌<◌, ◌≤◌, true, false, cond, ◌&&◌, eqb, List, [], ◌∷◌, map, filter, length, get_or, Option, Some, None, ◌⊎◌, refl, sym, ap, ◌∙◌, subst, inl, inr, arith}
use Rattle.std.specs.List.{Contains, All}
use Rattle.std.specs.Option.{option_map_or}
use Rattle.std.proofs.lemmas.Bool.{cases_lt, false≢true, eq-eqb, eqb-true, and_parts, and_from}
use Rattle.std.proofs.lemmas.List.Elements.{All-contains}
use Rattle.sas_task.specs.declared.parts.Pair.{Pair}
use Rattle.sas_task.specs.declared.parts.Effect.{Effect}
use Rattle.sas_task.specs.declared.parts.Operator.{Operator}
use Rattle.sas_task.specs.declared.parts.Group.{Group}
use Rattle.sas_task.specs.Task.{Task}
use Rattle.sas_task.specs.Valid.{IsValid, IsFact, layer_of}
use Rattle.sas_task.specs.Values.{all_hold, values}
use Rattle.sas_task.specs.Solution.{IsApplicable, Fires, Agrees, IsSuccessor, Step, IsReachable, MeetsGoal, cost_in, system}
use Rattle.sas_task.specs.Orders.{pair_cmp}
use Rattle.sas_task.specs.Keeps.{AtMostOne, IsSound}
use Rattle.sas_task.specs.TotalOrders.{pair_total}
use Rattle.lists.proofs.Members.{all_from_members, filter_member, map_member}
use Rattle.lists.proofs.Members as members
use Rattle.sas_task.proofs.Successors.{Lists, FiringOn, Carries, firing_or_none, successor_lists, lists_successor}
use Rattle.sas_task.proofs.Completion.{values_complete}
use Rattle.sas_task.proofs.States.{is_variable, reachable_is_state, some_successor}
use Rattle.sas_task.proofs.ValidParts.{operator_law, effect_law, none_of}
use Rattle.runs.specs.Systems.{HasStep, IsFollowed, IsFollowedWhere}
use Rattle.runs.proofs.Systems.{reached_more, state_follows}
use Rattle.sas_restriction.specs.Choice.{Choice, IsChoice, is_shown, is_left, all_left, new_var, new_val, new_pair, new_pairs, fact_stays, new_group, effect_stays, operator_stays, is_busy, new_effect}
use Rattle.sas_restriction.specs.Restriction.{IsNewOperator, Restricts}
use Rattle.sas_restriction.specs.MayStand.{IsTold, AreTold, MayStand}
use Rattle.sas_task.proofs.Sorted.{sorted_member}
use Rattle.sas_restriction.proofs.Numbers.{any_member, member_any}
use Rattle.sas_restriction.proofs.Shape.{count_is, more_low, state_count, state_low, state_high}
use Rattle.sas_restriction.proofs.Shown.{old, num, num_low, num_high, shown_at, shown_below, old_at, num_at, val_apart, val_one, pair_back, holds_new, holds_old, holding_left}
use Rattle.sas_restriction.proofs.Completed.{drawn, drawn_lists, values_shown}
use Rattle.sas_restriction.proofs.Valid.{restriction_valid}

module _ (C : Choice) (T T' : Task) (valid : IsValid T) (choice : IsChoice C T) (r : Restricts C T T') (may : MayStand C T) where
  valid' : IsValid T'
  valid' = restriction_valid C T T' valid choice r

  abbrev shown : List ℕ → ℕ → ℕ
  shown s v = num C T choice v (get_or s (old C T choice v) 0)

  -- the new state shows the old one, which is reachable
  pub record Shows (s s' : List ℕ) : Type 0 where
    pub reachable : IsReachable T s
    pub lists : Lists (length T'.variables) (λ v. num C T choice v (get_or s (old C T choice v) 0)) s'

  pub effect_below : (o : Operator) → Contains T.operators o → (e : Effect) → Contains o.effects e → e.var < length T.variables
  effect_below o in-o e in' = is_variable T e.var e.after (effect_law T valid o in-o e in').value

  pub fits : (s : List ℕ) → IsReachable T s → length s ≡ length T.variables
  fits s reached = (reachable_is_state T valid s reached).one_value

  same_cost : (o o' : Operator) → IsNewOperator C o o' → cost_in T' o' ≡ cost_in T o
  same_cost o o' is = ap (λ m. cond m o'.cost 1) r.metric ∙ ap (λ c. cond T.metric c 1) is.same_cost

  -- what a step sets is left
  pub set_left : (s t : List ℕ) (o : Operator) → IsReachable T s → Step T s o t → (e : Effect) → Contains o.effects e → Fires T s e → Contains (C.values e.var) e.after
  set_left s t o reached step e in' fires =
      let reached-t = reached_more (Step T) T.state s t o reached step in
      let below = effect_below o step.of_task e in' in
      let basic = (values_complete T valid t (fits t reached-t)).basic e.var (subst (λ n. e.var < n) (sym (fits t reached-t)) below) (none_of (layer_of T e.var) (effect_law T valid o step.of_task e in').basic) in
      let is : get_or t e.var 0 ≡ e.after = All-contains (λ q. Fires T s q → get_or t q.var 0 ≡ q.after) o.effects e step.successor.sets in' fires in
      subst (Contains (C.values e.var)) (basic ∙ is) (may.has t reached-t e.var below)

  module _ (s s' : List ℕ) (sh : Shows s s') where
    pub lists : Lists (length T'.variables) (λ v. num C T choice v (get_or (values T s) (old C T choice v) 0)) (values T' s')
    lists = values_shown C T T' valid choice r valid' may.rules s s' (fits s sh.reachable) (may.has s sh.reachable) sh.lists

    pub hold_new : (ps : List Pair) → all_hold (values T s) ps ≡ true → all_hold (values T' s') (new_pairs C ps) ≡ true
    hold_new = holds_new C T choice (values T s) (values T' s') (length T'.variables) (more_low C T T' r) lists

    pub hold_old : (ps : List Pair) → All (IsFact T) ps → all_left C ps ≡ true → AreTold C ps → all_hold (values T' s') (new_pairs C ps) ≡ true → all_hold (values T s) ps ≡ true
    hold_old = holds_old C T choice (values T s) (values T' s') (length T'.variables) (more_low C T T' r) lists (may.has s sh.reachable)

    pub hold_left : (ps : List Pair) → All (IsFact T) ps → all_hold (values T s) ps ≡ true → all_left C ps ≡ true
    hold_left = holding_left C T choice (values T s) (may.has s sh.reachable)

    -- a firing effect that sets a shown variable to a value that is left stays
    pub firing_stays : (o : Operator) → Contains T.operators o → (e : Effect) → Contains o.effects e → Fires T s e → Contains (C.values e.var) e.after → is_shown C e.var ≡ true → effect_stays C e ≡ true
    firing_stays o in-o e in' fires after is =
        and_from (all_left C e.conditions) (is_left C e.var e.after && is_shown C e.var) (hold_left e.conditions (effect_law T valid o in-o e in').conditions.facts fires)
        (and_from (is_left C e.var e.after) (is_shown C e.var) (member_any e.after (C.values e.var) after) is)

    module _ (o o' : Operator) (in-o : Contains T.operators o) (stays : operator_stays C o ≡ true) (is : IsNewOperator C o o') where
      -- a new effect fires where its old one does
      effect_back : (e' : Effect) → Contains o'.effects e' → Fires T' s' e' → (e : Effect) × Contains o.effects e × Fires T s e × (is_shown C e.var ≡ true) × Contains (C.values e.var) e.after × (new_effect C e ≡ e')
      effect_back e' in' fires =
          let e = is.no_other e' in' in
          let parts = and_parts (all_left C e.0.conditions) (is_left C e.0.var e.0.after && is_shown C e.0.var) e.2 in
          let more = and_parts (is_left C e.0.var e.0.after) (is_shown C e.0.var) parts.1 in
          let holds : all_hold (values T' s') (new_pairs C e.0.conditions) ≡ true = ap (λ (e : Effect). all_hold (values T' s') e.conditions) e.3 ∙ fires in
          (e.0, e.1, hold_old e.0.conditions (effect_law T valid o in-o e.0 e.1).conditions.facts parts.0 (may.effects o in-o stays e.0 e.1 e.2) holds, more.1, any_member e.0.after (C.values e.0.var) more.0, e.3)

      module _ (applicable : IsApplicable T s o) where
        after_left : (e : Effect) → Contains o.effects e → Fires T s e → Contains (C.values e.var) e.after
        after_left e in' fires = may.sets s sh.reachable o in-o stays applicable e in' fires

        effect_forth : (e : Effect) → Contains o.effects e → Fires T s e → is_shown C e.var ≡ true → Contains o'.effects (new_effect C e) × Fires T' s' (new_effect C e)
        effect_forth e in' fires shown-e = (is.each_effect e in' (firing_stays o in-o e in' fires (after_left e in' fires) shown-e), hold_new e.conditions fires)

        -- the new operator carries what is shown of a state to what is shown of its successor
        carries : (t : List ℕ) → IsSuccessor T s o t → Carries T' (length T'.variables) s' o' (shown s) (shown t)
        carries t successor =
            record {
              sets = λ e' in' fires.
                  let e = effect_back e' in' fires in
                  let at = shown_at C T choice e.0.var e.3 in
                  let low : new_var C e.0.var < length C.vars = at.0 in
                  let more = more_low C T T' r in
                  let within : new_var C e.0.var < length T'.variables = omega arith in
                  let set : get_or t e.0.var 0 ≡ e.0.after = All-contains (λ q. Fires T s q → get_or t q.var 0 ≡ q.after) o.effects e.0 successor.sets e.1 e.2 in
                  let value : shown t (new_var C e.0.var) ≡ new_val C e.0.var e.0.after =
                  num_at C T choice e.0.var (get_or t (old C T choice (new_var C e.0.var)) 0) e.3 ∙ ap (λ w. new_val C e.0.var (get_or t w 0)) at.1 ∙ ap (new_val C e.0.var) set in
                  (subst (λ (q : Effect). q.var < length T'.variables) e.5 within, ap (λ (q : Effect). shown t q.var) (sym e.5) ∙ value ∙ ap (λ (q : Effect). q.after) e.5);
              moves = λ v' below.
                  elim (cases_lt v' (length C.vars)) [
                    | inr high ↦ inl (num_high C T choice v' (get_or t (old C T choice v') 0) high ∙ sym (num_high C T choice v' (get_or s (old C T choice v') 0) high))
                    | inl low ↦ moves v' low (firing_or_none T s o.effects (old C T choice v'))
                  ];
            }
          where
            moves : (v' : ℕ) → v' < length C.vars → FiringOn T s o.effects (old C T choice v') ⊎ ((e : Effect) → Contains o.effects e → Fires T s e → e.var ≢ old C T choice v') → (shown t v' ≡ shown s v') ⊎ FiringOn T' s' o'.effects v'
            moves v' low (inr none) =
                let at = old_at C T choice v' low in
                let within : old C T choice v' < length s = subst (λ n. old C T choice v' < n) (sym (fits s sh.reachable)) (shown_below C T choice (old C T choice v') at.0) in
                inl (ap (num C T choice v') (successor.keeps (old C T choice v') within (all_from_members (λ e. Fires T s e → e.var ≢ old C T choice v') o.effects none)))
            moves v' low (inl firing) =
                let at = old_at C T choice v' low in
                let there = effect_forth firing.effect firing.listed firing.fires (ap (is_shown C) firing.on ∙ at.0) in
                inr (record { effect = new_effect C firing.effect; listed = there.0; fires = there.1; on = ap (new_var C) firing.on ∙ at.1 })

        -- an old operator agrees where the new one has a successor
        agrees_back : (t' : List ℕ) → IsSuccessor T' s' o' t' → Agrees T s o
        agrees_back t' successor a b in-a in-b fires-a fires-b same = by_telling (may.agree o in-o stays a b in-a in-b same)
          where
            b-left : Contains (C.values a.var) b.after
            b-left = subst (λ v. Contains (C.values v) b.after) (sym same) (after_left b in-b fires-b)

            set_at : (e : Effect) → Contains o.effects e → Fires T s e → is_shown C e.var ≡ true → get_or t' (new_var C e.var) 0 ≡ new_val C e.var e.after
            set_at e in' fires shown-e =
                let there = effect_forth e in' fires shown-e in
                All-contains (λ q. Fires T' s' q → get_or t' q.var 0 ≡ q.after) o'.effects (new_effect C e) successor.sets there.0 there.1

            by_telling : IsTold C a.var ⊎ (a.after ≡ b.after) → a.after ≡ b.after
            by_telling (inr one) = one
            by_telling (inl (inr short)) = val_one C T choice a.var a.after b.after short (after_left a in-a fires-a) b-left
            by_telling (inl (inl shown-a)) =
                val_apart C T choice a.var a.after b.after (after_left a in-a fires-a) b-left
                (sym (set_at a in-a fires-a shown-a) ∙ ap (λ v. get_or t' (new_var C v) 0) same ∙ set_at b in-b fires-b (ap (is_shown C) (sym same) ∙ shown-a) ∙ ap (λ v. new_val C v b.after) (sym same))

        -- and the new one where the old one does
        agrees_forth : Agrees T s o → Agrees T' s' o'
        agrees_forth agrees a b in-a in-b fires-a fires-b same =
            let p = effect_back a in-a fires-a in
            let q = effect_back b in-b fires-b in
            let vars : new_var C p.0.var ≡ new_var C q.0.var = ap (λ (e : Effect). e.var) p.5 ∙ same ∙ sym (ap (λ (e : Effect). e.var) q.5) in
            let one : p.0.var ≡ q.0.var = sym (shown_at C T choice p.0.var p.3).1 ∙ ap (old C T choice) vars ∙ (shown_at C T choice q.0.var q.3).1 in
            sym (ap (λ (e : Effect). e.after) p.5) ∙ ap (new_val C p.0.var) (agrees p.0 q.0 p.1 q.1 p.2 q.2 one) ∙ ap (λ w. new_val C w q.0.after) one ∙ ap (λ (e : Effect). e.after) q.5

    -- a step of an operator that is left
    pub forth_step : (o : Operator) (t : List ℕ) → Step T s o t → C.operators o ≡ true → HasStep (system T') s' o.name (cost_in T o) (Shows t)
    forth_step o t step left =
        let stays = and_from (all_left C o.conditions) (C.operators o) (hold_left o.conditions (operator_law T valid o step.of_task).conditions.facts step.applicable) left in
        let new = r.each_operator o step.of_task stays in
        let o' = new.0 in
        let is = new.2 in
        let to = drawn (shown t) (length T'.variables) in
        record {
          step = o';
          next = to;
          takes = record {
            of_task = new.1;
            applicable = subst (λ ps. all_hold (values T' s') ps ≡ true) (sym is.conditions) (hold_new o.conditions step.applicable);
            successor = lists_successor T' (length T'.variables) s' o' (shown s) (shown t) sh.lists (carries o o' step.of_task stays is step.applicable t step.successor) to (drawn_lists (shown t) (length T'.variables));
          };
          same_name = is.same_name;
          same_cost = same_cost o o' is;
          demand = record { reachable = reached_more (Step T) T.state s t o sh.reachable step; lists = drawn_lists (shown t) (length T'.variables) };
        }

    -- an operator none of whose effects stays changes nothing that is shown
    pub idle_step : (o : Operator) (t : List ℕ) → Step T s o t → is_busy C o ≡ false → Shows t s'
    idle_step o t step idle =
        record {
          reachable = reached_more (Step T) T.state s t o sh.reachable step;
          lists = record { count = sh.lists.count; at = λ v' below. sh.lists.at v' below ∙ sym (by_place v' (cases_lt v' (length C.vars))) };
        }
      where
        by_place : (v' : ℕ) → (v' < length C.vars) ⊎ (length C.vars ≤ v') → shown t v' ≡ shown s v'
        by_place v' (inr high) = num_high C T choice v' (get_or t (old C T choice v') 0) high ∙ sym (num_high C T choice v' (get_or s (old C T choice v') 0) high)
        by_place v' (inl low) =
            let at = old_at C T choice v' low in
            let within : old C T choice v' < length s = subst (λ n. old C T choice v' < n) (sym (fits s sh.reachable)) (shown_below C T choice (old C T choice v') at.0) in
            ap (num C T choice v') (step.successor.keeps (old C T choice v') within (all_from_members (λ e. Fires T s e → e.var ≢ old C T choice v') o.effects (λ e in' fires on.
            false≢true (sym idle ∙ members.member_any (effect_stays C) o.effects e in' (firing_stays o step.of_task e in' fires (set_left s t o sh.reachable step e in' fires) (ap (is_shown C) on ∙ at.0))))))

    -- the old operator of a new one that is applicable
    applicable_back : (o o' : Operator) → Contains T.operators o → operator_stays C o ≡ true → IsNewOperator C o o' → IsApplicable T' s' o' → IsApplicable T s o
    applicable_back o o' in-o stays is applicable =
        hold_old o.conditions (operator_law T valid o in-o).conditions.facts (and_parts (all_left C o.conditions) (C.operators o) stays).0 (may.operators o in-o stays)
        (subst (λ ps. all_hold (values T' s') ps ≡ true) is.conditions applicable)

    back_step : (o' : Operator) (t' : List ℕ) → Step T' s' o' t' → HasStep (system T) s o'.name (cost_in T' o') (λ t. Shows t t')
    back_step o' t' step =
        let of = r.operators o' step.of_task in
        let o = of.0 in
        let applicable = applicable_back o o' of.1 of.2 of.3 step.applicable in
        let agrees = agrees_back o o' of.1 of.2 of.3 applicable t' step.successor in
        let next = some_successor T s o valid (fits s sh.reachable) of.1 agrees in
        let takes : Step T s o next.0 = record { of_task = of.1; applicable = applicable; successor = next.1 } in
        record {
          step = o;
          next = next.0;
          takes = takes;
          same_name = sym of.3.same_name;
          same_cost = sym (same_cost o o' of.3);
          demand = record {
            reachable = reached_more (Step T) T.state s next.0 o sh.reachable takes;
            lists = successor_lists T' (length T'.variables) s' o' (shown s) (shown next.0) sh.lists (carries o o' of.1 of.2 of.3 applicable next.0 next.1) t' step.successor;
          };
        }

    -- the goal, by whether there is a holder
    goal_of : Option ℕ → List Pair
    goal_of o = option_map_or (λ start. record { var = length C.vars; val = 0 } ∷ []) o (new_pairs C T.goal)

    holder_value : (x : ℕ) → C.holder ≡ Some x → get_or (values T' s') (length C.vars) 0 ≡ x
    holder_value x is =
        let count : length T'.variables ≡ length C.vars + 1 = count_is C T T' r ∙ ap (λ (o : Option ℕ). length C.vars + option_map_or (λ start. 1) o 0) is in
        let below : length C.vars < length T'.variables = omega arith in
        lists.at (length C.vars) below
        ∙ num_high C T choice (length C.vars) (get_or (values T s) (old C T choice (length C.vars)) 0) (omega arith)
        ∙ ap (λ (o : Option ℕ). option_map_or (λ h. h) o 0) is

    pub goal_forth : MeetsGoal T s → MeetsGoal T' s'
    unfolding goal_of
    goal_forth meets = ap (all_hold (values T' s')) r.goal ∙ by_holder C.holder refl
      where
        by_holder : (o : Option ℕ) → C.holder ≡ o → all_hold (values T' s') (goal_of o) ≡ true
        by_holder None is = hold_new T.goal meets
        by_holder (Some x) is =
            let zero-is : x ≡ 0 = (may.held x is s sh.reachable).0 meets in
            and_from (eqb (get_or (values T' s') (length C.vars) 0) 0) true (eq-eqb (get_or (values T' s') (length C.vars) 0) 0 (holder_value x is ∙ zero-is)) refl

    goal_back : MeetsGoal T' s' → MeetsGoal T s
    unfolding goal_of
    goal_back meets = by_holder C.holder refl (ap (all_hold (values T' s')) (sym r.goal) ∙ meets)
      where
        by_holder : (o : Option ℕ) → C.holder ≡ o → all_hold (values T' s') (goal_of o) ≡ true → all_hold (values T s) T.goal ≡ true
        by_holder None is holds = hold_old T.goal valid.goal.facts (choice.goal_left is) (may.goal is) holds
        by_holder (Some x) is holds =
            (may.held x is s sh.reachable).1
            (sym (holder_value x is) ∙ eqb-true (get_or (values T' s') (length C.vars) 0) 0 (and_parts (eqb (get_or (values T' s') (length C.vars) 0) 0) true holds).0)

    groups_shown : All (λ (g : Group). AtMostOne (values T s) g.facts) T.groups → All (λ (g : Group). AtMostOne (values T' s') g.facts) T'.groups
    groups_shown exclusive =
        all_from_members (λ (g : Group). AtMostOne (values T' s') g.facts) T'.groups (λ g' in'.
        let g = r.groups g' in' in
        subst (λ (g : Group). AtMostOne (values T' s') g.facts) g.2 (one_group g.0 (All-contains (λ (g : Group). AtMostOne (values T s) g.facts) T.groups g.0 exclusive g.1)))
      where
        fact_of : (g : Group) (p' : Pair) → Contains (new_group C g).facts p' → get_or (values T' s') p'.var 0 ≡ p'.val → (p : Pair) × Contains g.facts p × (new_pair C p ≡ p') × (get_or (values T s) p.var 0 ≡ p.val)
        fact_of g p' in-p holds =
            let m = map_member (new_pair C) (filter (fact_stays C) g.facts) p' (sorted_member pair_cmp pair_total (map (new_pair C) (filter (fact_stays C) g.facts)) p' in-p) in
            let f = filter_member (fact_stays C) g.facts m.0 m.1 in
            let parts = and_parts (is_left C m.0.var m.0.val) (is_shown C m.0.var) f.1 in
            let is : get_or (values T' s') (new_var C m.0.var) 0 ≡ new_val C m.0.var m.0.val = subst (λ (q : Pair). get_or (values T' s') q.var 0 ≡ q.val) (sym m.2) holds in
            (m.0, f.0, m.2, pair_back C T choice (values T s) (values T' s') (length T'.variables) (more_low C T T' r) lists (may.has s sh.reachable) m.0 (any_member m.0.val (C.values m.0.var) parts.0) parts.1 is)

        one_group : (g : Group) → AtMostOne (values T s) g.facts → AtMostOne (values T' s') (new_group C g).facts
        one_group g one p' q' in-p in-q holds-p holds-q =
            let p = fact_of g p' in-p holds-p in
            let q = fact_of g q' in-q holds-q in
            sym p.2 ∙ ap (new_pair C) (one p.0 q.0 p.1 q.1 p.3 q.3) ∙ q.2

  pub starts : Shows T.state T'.state
  starts =
      record {
        reachable = ([], refl);
        lists = record { count = state_count C T T' r; at = λ v below. by_place v below (cases_lt v (length C.vars)) };
      }
    where
      by_place : (v : ℕ) → v < length T'.variables → (v < length C.vars) ⊎ (length C.vars ≤ v) → get_or T'.state v 0 ≡ shown T.state v
      by_place v below (inl low) = state_low C T T' r v low ∙ sym (num_low C T choice v (get_or T.state (old C T choice v) 0) low)
      by_place v below (inr high) = state_high C T T' r v high below ∙ sym (num_high C T choice v (get_or T.state (old C T choice v) 0) high)

  -- the new task's steps are followed by the old one's
  pub followed_back : IsFollowed (system T') (system T) (λ s' s. Shows s s')
  followed_back = record { starts = starts; steps = λ s' s sh o' t' step. back_step s s' sh o' t' step; goals = λ s' s sh. goal_back s s' sh }

  -- the old task's busy steps are followed by the new one's
  pub followed_busy : IsFollowedWhere (system T) (system T') (is_busy C) Shows
  followed_busy =
      record {
        starts = starts;
        steps = λ s s' sh o t step busy. forth_step s s' sh o t step (may.each s sh.reachable o t step busy);
        others = λ s s' sh o t step idle. idle_step s s' sh o t step idle;
        goals = goal_forth;
      }

  pub sound : IsSound T → IsSound T'
  sound is =
      record {
        exclusive = λ s' reached.
            let f = state_follows (system T') (system T) (λ s' s. Shows s s') followed_back s' reached in
            groups_shown f.0 s' f.2 (is.exclusive f.0 f.1);
        agrees = λ s' o' reached in' applicable.
            let f = state_follows (system T') (system T) (λ s' s. Shows s s') followed_back s' reached in
            let of = r.operators o' in' in
            let app = applicable_back f.0 s' f.2 of.0 o' of.1 of.2 of.3 applicable in
            agrees_forth f.0 s' f.2 of.0 o' of.1 of.2 of.3 app (is.agrees f.0 of.0 f.1 of.1 app);
      }
