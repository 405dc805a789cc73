-- The projection is a restriction that may stand for its task.
use Rattle.std.proofs.Common.{◌≡◌, ◌≢◌, ℕ, ◌<◌, Bool, true, false, cond, eqb, List, length, get_or, Option, Some, None, refl, sym, ◌∙◌, subst, inl, inr, arith}
use Rattle.std.specs.Prelude.{IfSome, ◌↔◌}
use Rattle.std.specs.List.{Contains, list_any, range_with_len}
use Rattle.std.proofs.lemmas.Bool.{cases_Bool, false≢true, eq-eqb, ltb-false}
use Rattle.std.proofs.lemmas.Option.{same_Some, none-some}
use Rattle.std.proofs.lemmas.List.Elements.{All-contains}
use Rattle.std.proofs.lemmas.List.Kept.{AllPairs-filter}
use Rattle.std.proofs.lemmas.List.FromFn.{get_or-range_with_len, length-range_with_len}
use Rattle.sas_task.specs.declared.parts.Pair.{Pair}
use Rattle.sas_task.specs.Task.{Task}
use Rattle.sas_task.specs.Valid.{IsValid, IsValue}
use Rattle.sas_task.specs.Values.{values}
use Rattle.sas_task.specs.Solution.{IsReachable, MeetsGoal}
use Rattle.lists.proofs.Members.{member_range, range_member, filter_member, member_filter, all_from_members, each_passes}
use Rattle.lists.proofs.Members as members
use Rattle.sas_task.proofs.States.{is_variable}
use Rattle.sas_task.proofs.ValidParts.{effect_law, rule_law}
use Rattle.sas_restriction.specs.Closed.{IsClosed, EffectTransition, RuleTransition}
use Rattle.sas_restriction.specs.Choice.{Choice, IsChoice, is_shown, all_left}
use Rattle.sas_restriction.specs.MayStand.{IsTold, MayStand, TellsAll}
use Rattle.sas_restriction.proofs.Numbers.{member_any, one_member}
use Rattle.sas_restriction.proofs.Closed.{has_always, sets_always, rule_has}
use Rattle.sas_restriction.proofs.Shown.{holding_left, good_of}
use Rattle.sas_restriction.proofs.Told.{may_where_told}
use Rattle.task_simplifier.specs.Kept.{IsKept, Initial, ByEffect, ByRule, AreKept}
use Rattle.task_simplifier.specs.Projection.{stays, without_holder, projected}

-- kept values are values
pub is_value : (T : Task) → IsValid T → (v x : ℕ) → v < length T.variables → IsKept T v x → IsValue T v x
is_value T valid v x below Initial = valid.state v below
is_value T valid v x below (ByEffect val next from move) =
    let law = effect_law T valid move.operator move.of_task move.effect move.of_operator in
    subst (λ w. IsValue T w next) move.on (subst (IsValue T move.effect.var) move.to law.value)
is_value T valid v x below (ByRule val next from move) =
    let law = rule_law T valid move.rule move.of_task in
    subst (λ w. IsValue T w next) move.on (subst (IsValue T move.rule.var) move.to law.value)

module _ (T : Task) (valid : IsValid T) (kept : ℕ → List ℕ) (are : AreKept T kept) where
  abbrev C : Choice
  C = projected kept T

  effect_below : (v val next : ℕ) → EffectTransition T v val next → v < length T.variables
  effect_below v val next move =
      let law = effect_law T valid move.operator move.of_task move.effect move.of_operator in
      subst (λ w. w < length T.variables) move.on (is_variable T move.effect.var move.effect.after law.value)

  rule_below : (v val next : ℕ) → RuleTransition T v val next → v < length T.variables
  rule_below v val next move =
      let law = rule_law T valid move.rule move.of_task in
      subst (λ w. w < length T.variables) move.on (is_variable T move.rule.var move.rule.after law.value)

  -- the kept values are closed
  closed : IsClosed T (λ v x. Contains (kept v) x)
  closed =
      record {
        initial = λ v below. are.each v (get_or T.state v 0) below Initial;
        by_effect = λ v val next has move. let below = effect_below v val next move in are.each v next below (ByEffect val next (are.only v val below has) move);
        by_rule = λ v val next has move. let below = rule_below v val next move in are.each v next below (ByRule val next (are.only v val below has) move);
      }

  -- a variable that stays is shown, and of any other one value is left
  pub told : TellsAll (projected kept T) T
  told v below =
      elim (cases_Bool (stays kept v)) [
        | inl is ↦ inl (member_any v C.vars (member_filter (stays kept) (range_with_len 0 (length T.variables)) v (member_range (length T.variables) v below) is))
        | inr not ↦ inr (ltb-false 1 (length (kept v)) not)
      ]

  -- the goal, by whether its values are kept and whether a pair of it stays
  holder_of : Bool → Bool → Option ℕ
  holder_of a b = cond a (cond b None (Some 0)) (Some 1)

  goal_kept : (a b : Bool) → all_left (without_holder kept T) T.goal ≡ a → holder_of a b ≡ None → all_left (without_holder kept T) T.goal ≡ true
  unfolding holder_of
  goal_kept true b is none = is
  goal_kept false b is none = absurd (none-some 1 (sym none))

  two_valued : (a b : Bool) → IfSome (holder_of a b) (λ start. start < 2)
  unfolding holder_of
  two_valued true true = tt
  two_valued true false = omega arith
  two_valued false b = omega arith

  pub choice : IsChoice (projected kept T) T
  unfolding holder_of
  choice =
      record {
        inside = all_from_members (λ v. v < length T.variables) C.vars (λ v in'. range_member (length T.variables) v (filter_member (stays kept) (range_with_len 0 (length T.variables)) v in').0);
        once = AllPairs-filter (λ v w. v ≢ w) (stays kept) (range_with_len 0 (length T.variables)) (λ i j d lt below.
            let below' : j < length T.variables = subst (λ n. j < n) (length-range_with_len 0 (length T.variables)) below in
            let at-i = get_or-range_with_len 0 (length T.variables) i d (omega arith) in
            let at-j = get_or-range_with_len 0 (length T.variables) j d below' in
            λ same. absurd (omega arith));
        in_order = are.sorted;
        are_values = λ v x below in'. is_value T valid v x below (are.only v x below in');
        initial = closed.initial;
        by_rules = λ r in' stays. rule_has T valid (λ v x. Contains (kept v) x) closed r in';
        two_valued = two_valued (all_left (without_holder kept T) T.goal) (list_any (λ p. is_shown (without_holder kept T) p.var) T.goal);
        goal_left = goal_kept (all_left (without_holder kept T) T.goal) (list_any (λ p. is_shown (without_holder kept T) p.var) T.goal) refl;
      }

  -- a goal on dropped variables alone is always met, where its values are kept
  goal_met : (s : List ℕ) → IsReachable T s → all_left (without_holder kept T) T.goal ≡ true → list_any (λ (p : Pair). is_shown (without_holder kept T) p.var) T.goal ≡ false → MeetsGoal T s
  goal_met s reached all none =
      each_passes (λ (p : Pair). eqb (get_or (values T s) p.var 0) p.val) T.goal (λ p in'.
      let below = is_variable T p.var p.val (All-contains (λ (p : Pair). IsValue T p.var p.val) T.goal p valid.goal.facts in') in
      eq-eqb (get_or (values T s) p.var 0) p.val
      (by_telling p in' (has_always T valid (λ v x. Contains (kept v) x) closed s reached p.var below) (told p.var below)))
    where
      by_telling : (p : Pair) → Contains T.goal p → Contains (kept p.var) (get_or (values T s) p.var 0) → IsTold (projected kept T) p.var → get_or (values T s) p.var 0 ≡ p.val
      by_telling p in' has (inl shown) = absurd (false≢true (sym none ∙ members.member_any (λ (p : Pair). is_shown (without_holder kept T) p.var) T.goal p in' shown))
      by_telling p in' has (inr short) = one_member (kept p.var) (get_or (values T s) p.var 0) p.val has (good_of C T choice T.goal all p in') short

  held : (a b : Bool) → all_left (without_holder kept T) T.goal ≡ a → list_any (λ (p : Pair). is_shown (without_holder kept T) p.var) T.goal ≡ b → (start : ℕ) → holder_of a b ≡ Some start → (s : List ℕ) → IsReachable T s → MeetsGoal T s ↔ (start ≡ 0)
  unfolding holder_of
  held true true all some start is s reached = absurd (none-some start is)
  held true false all none start is s reached = (λ meets. sym (same_Some 0 start is), λ zero. goal_met s reached all none)
  held false b all some start is s reached = (
    λ meets. absurd (false≢true (sym all ∙ holding_left C T choice (values T s) (has_always T valid (λ v x. Contains (kept v) x) closed s reached) T.goal valid.goal.facts meets)),
    λ zero. let one : 1 ≡ start = same_Some 1 start is in absurd (omega arith),
  )

  pub may : MayStand (projected kept T) T
  unfolding holder_of
  may =
      may_where_told C T valid told
      (has_always T valid (λ v x. Contains (kept v) x) closed)
      (λ s reached o in-o stays. sets_always T valid (λ v x. Contains (kept v) x) closed s reached o in-o)
      (held (all_left (without_holder kept T) T.goal) (list_any (λ p. is_shown (without_holder kept T) p.var) T.goal) refl refl)
      (λ s reached o t step busy. busy)
