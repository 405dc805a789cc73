-- How a restriction shows values and conditions.
use Rattle.std.proofs.Common.{◌≡◌, ℕ, ◌<◌, ◌≤◌, true, cond, eqb, ltb, List, map, filter, length, get_or, sym, ap, ◌∙◌, subst, inl, inr, arith}
use Rattle.std.specs.List.{Contains, All}
use Rattle.std.specs.Option.{option_map_or}
use Rattle.std.proofs.lemmas.Bool.{eq-eqb, eqb-true, lt-ltb, le-ltb}
use Rattle.std.proofs.lemmas.List.{get_or_default}
use Rattle.std.proofs.lemmas.List.Elements.{All-contains}
use Rattle.sas_task.specs.declared.parts.Pair.{Pair}
use Rattle.sas_task.specs.Orders.{pair_cmp}
use Rattle.sas_task.specs.Task.{Task}
use Rattle.sas_task.specs.Valid.{IsFact}
use Rattle.sas_task.specs.Values.{all_hold}
use Rattle.sas_task.specs.TotalOrders.{pair_total}
use Rattle.lists.proofs.Members.{all_pass, each_passes, filter_member, member_filter, map_member, member_map}
use Rattle.sas_task.proofs.Successors.{Lists}
use Rattle.sas_task.proofs.States.{is_variable}
use Rattle.sas_restriction.specs.Choice.{Choice, IsChoice, is_shown, is_left, all_left, new_var, new_val, new_pair, new_pairs}
use Rattle.sas_restriction.specs.MayStand.{IsTold, AreTold}
use Rattle.sas_task.proofs.Sorted.{sorted_member, member_sorted}
use Rattle.sas_restriction.proofs.Exact.{pair_exact}
use Rattle.sas_restriction.proofs.Numbers.{any_member, member_any, place_of, at_place_of, one_number, one_member}

module _ (C : Choice) (T : Task) (choice : IsChoice C T) where
  abbrev pub old : ℕ → ℕ
  old v' = get_or C.vars v' 0

  -- the new number of a value: of a shown variable, or of the holder
  abbrev pub num : ℕ → ℕ → ℕ
  num v' x = cond (ltb v' (length C.vars)) (new_val C (old v') x) (option_map_or (λ h. h) C.holder 0)

  pub num_low : (v' x : ℕ) → v' < length C.vars → num v' x ≡ new_val C (old v') x
  num_low v' x low = ap (λ b. cond b (new_val C (old v') x) (option_map_or (λ h. h) C.holder 0)) (lt-ltb v' (length C.vars) low)

  pub num_high : (v' x : ℕ) → length C.vars ≤ v' → num v' x ≡ option_map_or (λ h. h) C.holder 0
  num_high v' x high = ap (λ b. cond b (new_val C (old v') x) (option_map_or (λ h. h) C.holder 0)) (le-ltb v' (length C.vars) high)

  -- a shown variable, at its new number
  pub shown_at : (v : ℕ) → is_shown C v ≡ true → (new_var C v < length C.vars) × (old (new_var C v) ≡ v)
  shown_at v shown = place_of C.vars v (any_member v C.vars shown)

  pub shown_below : (v : ℕ) → is_shown C v ≡ true → v < length T.variables
  shown_below v shown = All-contains (λ v. v < length T.variables) C.vars v choice.inside (any_member v C.vars shown)

  pub old_at : (v' : ℕ) → v' < length C.vars → (is_shown C (old v') ≡ true) × (new_var C (old v') ≡ v')
  old_at v' low = (member_any (old v') C.vars (v', low, get_or_default C.vars v' (old v') 0 low), at_place_of C.vars v' choice.once low)

  pub num_at : (v x : ℕ) → is_shown C v ≡ true → num (new_var C v) x ≡ new_val C v x
  num_at v x shown = let at = shown_at v shown in num_low (new_var C v) x at.0 ∙ ap (λ w. new_val C w x) at.1

  -- values that are left have different numbers
  pub val_apart : (v x y : ℕ) → Contains (C.values v) x → Contains (C.values v) y → new_val C v x ≡ new_val C v y → x ≡ y
  val_apart v = one_number (C.values v)

  pub val_one : (v x y : ℕ) → length (C.values v) ≤ 1 → Contains (C.values v) x → Contains (C.values v) y → x ≡ y
  val_one v x y short in-x in-y = one_member (C.values v) x y in-x in-y short

  pub facts_below : (ps : List Pair) → All (IsFact T) ps → (p : Pair) → Contains ps p → p.var < length T.variables
  facts_below ps facts p in' = is_variable T p.var p.val (All-contains (IsFact T) ps p facts in')

  -- a pair whose value is left
  abbrev pub Good : Pair → Type 0
  Good p = Contains (C.values p.var) p.val

  pub good_of : (ps : List Pair) → all_left C ps ≡ true → (p : Pair) → Contains ps p → Good p
  good_of ps all p in' = any_member p.val (C.values p.var) (all_pass (λ (p : Pair). is_left C p.var p.val) ps p all in')

  pub all_of : (ps : List Pair) → ((p : Pair) → Contains ps p → Good p) → all_left C ps ≡ true
  all_of ps each = each_passes (λ (p : Pair). is_left C p.var p.val) ps (λ p in'. member_any p.val (C.values p.var) (each p in'))

  -- new conditions
  pub pair_of : (ps : List Pair) (p' : Pair) → Contains (new_pairs C ps) p' → (p : Pair) × Contains ps p × (is_shown C p.var ≡ true) × (new_pair C p ≡ p')
  pair_of ps p' in' =
      let m = map_member (new_pair C) (filter (λ (p : Pair). is_shown C p.var) ps) p' (sorted_member pair_cmp pair_total (map (new_pair C) (filter (λ (p : Pair). is_shown C p.var) ps)) p' in') in
      let f = filter_member (λ (p : Pair). is_shown C p.var) ps m.0 m.1 in
      (m.0, f.0, f.1, m.2)

  of_pair : (ps : List Pair) (p : Pair) → Contains ps p → is_shown C p.var ≡ true → Contains (new_pairs C ps) (new_pair C p)
  of_pair ps p in' shown =
      member_sorted pair_cmp pair_total (map (new_pair C) (filter (λ (p : Pair). is_shown C p.var) ps)) (λ a b in-a in-b. pair_exact a b) (new_pair C p)
      (member_map (new_pair C) (filter (λ (p : Pair). is_shown C p.var) ps) p (member_filter (λ (p : Pair). is_shown C p.var) ps p in' shown))

  -- values, and what shows them: conditions have the same truth
  module _ (full full' : List ℕ) (n' : ℕ) (more : length C.vars ≤ n') (shows : Lists n' (λ v. num v (get_or full (old v) 0)) full') where
    pub value_at : (v : ℕ) → is_shown C v ≡ true → get_or full' (new_var C v) 0 ≡ new_val C v (get_or full v 0)
    value_at v shown =
        let at = shown_at v shown in
        let lt : new_var C v < length C.vars = at.0 in
        shows.at (new_var C v) (omega arith) ∙ num_at v (get_or full (old (new_var C v)) 0) shown ∙ ap (λ w. new_val C v (get_or full w 0)) at.1

    pub holds_new : (ps : List Pair) → all_hold full ps ≡ true → all_hold full' (new_pairs C ps) ≡ true
    holds_new ps holds =
        each_passes (λ (p : Pair). eqb (get_or full' p.var 0) p.val) (new_pairs C ps) (λ p' in'.
        let p = pair_of ps p' in' in
        let is : get_or full p.0.var 0 ≡ p.0.val = eqb-true (get_or full p.0.var 0) p.0.val (all_pass (λ (p : Pair). eqb (get_or full p.var 0) p.val) ps p.0 holds p.1) in
        subst (λ (q : Pair). eqb (get_or full' q.var 0) q.val ≡ true) p.3
        (eq-eqb (get_or full' (new_var C p.0.var) 0) (new_val C p.0.var p.0.val) (value_at p.0.var p.2 ∙ ap (new_val C p.0.var) is)))

    module _ (all : (v : ℕ) → v < length T.variables → Contains (C.values v) (get_or full v 0)) where
      pub pair_back : (p : Pair) → Good p → is_shown C p.var ≡ true → get_or full' (new_var C p.var) 0 ≡ new_val C p.var p.val → get_or full p.var 0 ≡ p.val
      pair_back p good shown is = val_apart p.var (get_or full p.var 0) p.val (all p.var (shown_below p.var shown)) good (sym (value_at p.var shown) ∙ is)

      pub holds_old : (ps : List Pair) → All (IsFact T) ps → all_left C ps ≡ true → AreTold C ps → all_hold full' (new_pairs C ps) ≡ true → all_hold full ps ≡ true
      holds_old ps facts left told holds =
          each_passes (λ (p : Pair). eqb (get_or full p.var 0) p.val) ps (λ p in'. eq-eqb (get_or full p.var 0) p.val (by_telling p in' (told p in')))
        where
          by_telling : (p : Pair) → Contains ps p → IsTold C p.var → get_or full p.var 0 ≡ p.val
          by_telling p in' (inl shown) =
              pair_back p (good_of ps left p in') shown
              (eqb-true (get_or full' (new_var C p.var) 0) (new_val C p.var p.val) (all_pass (λ (p : Pair). eqb (get_or full' p.var 0) p.val) (new_pairs C ps) (new_pair C p) holds (of_pair ps p in' shown)))
          by_telling p in' (inr short) = val_one p.var (get_or full p.var 0) p.val short (all p.var (facts_below ps facts p in')) (good_of ps left p in')

  -- what holds in values that are left needs no others
  pub holding_left : (full : List ℕ) → ((v : ℕ) → v < length T.variables → Contains (C.values v) (get_or full v 0)) → (ps : List Pair) → All (IsFact T) ps → all_hold full ps ≡ true → all_left C ps ≡ true
  holding_left full all ps facts holds =
      all_of ps (λ p in'.
      let is : get_or full p.var 0 ≡ p.val = eqb-true (get_or full p.var 0) p.val (all_pass (λ (p : Pair). eqb (get_or full p.var 0) p.val) ps p holds in') in
      subst (Contains (C.values p.var)) is (all p.var (facts_below ps facts p in')))
