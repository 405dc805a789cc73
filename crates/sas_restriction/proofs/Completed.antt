-- The values in a state are shown by those in the state that shows it.
use Rattle.std.proofs.Common.{◌≡◌, ℕ, ◌<◌, ◌≤◌, true, ◌&&◌, eqb, List, map, length, get_or, Option, Some, None, ◌⊎◌, refl, sym, ap, ◌∙◌, subst, inl, inr, arith}
use Rattle.std.specs.List.{Contains, range_with_len}
use Rattle.std.specs.Option.{option_map_or}
use Rattle.std.proofs.lemmas.Bool.{cases_lt, false≢true, eq-eqb, eqb-true, and_parts, and_from}
use Rattle.std.proofs.lemmas.Option.{none-some}
use Rattle.std.proofs.lemmas.List.FromFn.{length-map-range_with_len, get_or-map-range_with_len}
use Rattle.sas_task.specs.declared.parts.Rule.{Rule}
use Rattle.sas_task.specs.Task.{Task}
use Rattle.sas_task.specs.Valid.{IsValid, layer_of}
use Rattle.sas_task.specs.Values.{all_hold, firing_rule, values}
use Rattle.sas_task.specs.Completion.{Completes}
use Rattle.sas_task.proofs.Successors.{Lists}
use Rattle.sas_task.proofs.Completion.{values_complete, values_only}
use Rattle.sas_task.proofs.ValidParts.{rule_law}
use Rattle.sas_restriction.specs.Choice.{Choice, IsChoice, is_shown, all_left, new_var, new_val, new_pairs, rule_stays, new_rule}
use Rattle.sas_restriction.specs.Restriction.{Restricts}
use Rattle.sas_restriction.specs.MayStand.{AreTold}
use Rattle.lists.proofs.Members.{find_found, find_nothing}
use Rattle.sas_restriction.proofs.Alike.{one_shown}
use Rattle.sas_restriction.proofs.Shape.{layer_low, layer_high, more_low, state_low}
use Rattle.sas_restriction.proofs.Shown.{old, num, num_low, num_high, shown_below, old_at, holds_new, holds_old, holding_left}
use Rattle.sas_restriction.proofs.Valid.{one_after}

-- values, by number
abbrev pub drawn : (ℕ → ℕ) → ℕ → List ℕ
drawn value n = map value (range_with_len 0 n)

pub drawn_lists : (value : ℕ → ℕ) (n : ℕ) → Lists n value (drawn value n)
drawn_lists value n =
    record {
      count = length-map-range_with_len value 0 n;
      at = λ v below. get_or-map-range_with_len value 0 n v v 0 below (omega arith);
    }

module _ (C : Choice) (T T' : Task) (valid : IsValid T) (choice : IsChoice C T) (r : Restricts C T T') (valid' : IsValid T') (told : (q : Rule) → Contains T.rules q → rule_stays C q ≡ true → AreTold C q.conditions) (s s' : List ℕ) (fits : length s ≡ length T.variables) (all : (v : ℕ) → v < length T.variables → Contains (C.values v) (get_or (values T s) v 0)) (shows : Lists (length T'.variables) (λ v. num C T choice v (get_or s (old C T choice v) 0)) s') where
  abbrev new : ℕ → ℕ
  new v = num C T choice v (get_or (values T s) (old C T choice v) 0)

  abbrev full : List ℕ
  full = drawn new (length T'.variables)

  lists : Lists (length T'.variables) new full
  lists = drawn_lists new (length T'.variables)

  complete : Completes T s (values T s)
  complete = values_complete T valid s fits

  within : (v : ℕ) → v < length T.variables → v < length s
  within v below = subst (λ n. v < n) (sym fits) below

  -- a rule that fires, by its variable
  found : (w : ℕ) (q : Rule) → firing_rule T (values T s) w ≡ Some q → Contains T.rules q × (q.var ≡ w) × (all_hold (values T s) q.conditions ≡ true)
  found w q at =
      let is = find_found (λ (q : Rule). eqb q.var w && all_hold (values T s) q.conditions) T.rules q at in
      let parts = and_parts (eqb q.var w) (all_hold (values T s) q.conditions) is.1 in
      (is.0, eqb-true q.var w parts.0, parts.1)

  -- where a new rule fires, an old one does
  found' : (v' : ℕ) → v' < length C.vars → (q' : Rule) → firing_rule T' full v' ≡ Some q' → (q : Rule) × Contains T.rules q × (q.var ≡ old C T choice v') × (all_hold (values T s) q.conditions ≡ true) × (q'.after ≡ new_val C (old C T choice v') q.after)
  found' v' low q' at =
      let is = find_found (λ (q : Rule). eqb q.var v' && all_hold full q.conditions) T'.rules q' at in
      let parts = and_parts (eqb q'.var v') (all_hold full q'.conditions) is.1 in
      let q = r.rules q' is.0 in
      let stays = and_parts (all_left C q.0.conditions) (is_shown C q.0.var) q.2 in
      let at-v = old_at C T choice v' low in
      let var-is : q.0.var ≡ old C T choice v' = one_shown C q.0.var (old C T choice v') stays.1 at-v.0 (ap (λ (q : Rule). q.var) q.3 ∙ eqb-true q'.var v' parts.0 ∙ sym at-v.1) in
      let holds : all_hold full (new_pairs C q.0.conditions) ≡ true = ap (λ (q : Rule). all_hold full q.conditions) q.3 ∙ parts.1 in
      (q.0, q.1, var-is, holds_old C T choice (values T s) full (length T'.variables) (more_low C T T' r) lists all q.0.conditions (rule_law T valid q.0 q.1).conditions.facts stays.0 (told q.0 q.1 q.2) holds, sym (ap (λ (q : Rule). q.after) q.3) ∙ ap (λ w. new_val C w q.0.after) var-is)

  derived_same : (v' : ℕ) → v' < length C.vars → (o : Option Rule) → firing_rule T (values T s) (old C T choice v') ≡ o → (o' : Option Rule) → firing_rule T' full v' ≡ o' →
      new_val C (old C T choice v') (option_map_or (λ (q : Rule). q.after) o (get_or T.state (old C T choice v') 0)) ≡ option_map_or (λ (q : Rule). q.after) o' (get_or T'.state v' 0)
  derived_same v' low None at None at' = sym (state_low C T T' r v' low)
  derived_same v' low (Some q) at (Some q') at' =
      let f = found (old C T choice v') q at in
      let p = found' v' low q' at' in
      ap (new_val C (old C T choice v')) (one_after T valid q p.0 f.0 p.1 (f.1 ∙ sym p.2)) ∙ sym p.4
  derived_same v' low None at (Some q') at' =
      let p = found' v' low q' at' in
      let no = find_nothing (λ (q : Rule). eqb q.var (old C T choice v') && all_hold (values T s) q.conditions) T.rules at p.0 p.1 in
      absurd (false≢true (sym no ∙ and_from (eqb p.0.var (old C T choice v')) (all_hold (values T s) p.0.conditions) (eq-eqb p.0.var (old C T choice v') p.2) p.3))
  derived_same v' low (Some q) at None at' =
      let f = found (old C T choice v') q at in
      let left = holding_left C T choice (values T s) all q.conditions (rule_law T valid q f.0).conditions.facts f.2 in
      let at-v = old_at C T choice v' low in
      let shown : is_shown C q.var ≡ true = ap (is_shown C) f.1 ∙ at-v.0 in
      let var-is : new_var C q.var ≡ v' = ap (new_var C) f.1 ∙ at-v.1 in
      let no = find_nothing (λ (q : Rule). eqb q.var v' && all_hold full q.conditions) T'.rules at' (new_rule C q) (r.each_rule q f.0 (and_from (all_left C q.conditions) (is_shown C q.var) left shown)) in
      absurd (false≢true (sym no ∙ and_from (eqb (new_var C q.var) v') (all_hold full (new_pairs C q.conditions)) (eq-eqb (new_var C q.var) v' var-is) (holds_new C T choice (values T s) full (length T'.variables) (more_low C T T' r) lists q.conditions f.2)))

  completes : Completes T' s' full
  completes =
      record {
        count = lists.count ∙ sym shows.count;
        basic = λ v below is. basic v (subst (λ n. v < n) shows.count below) is (cases_lt v (length C.vars));
        derived = λ v layer below is. derived v layer (subst (λ n. v < n) shows.count below) is (cases_lt v (length C.vars));
      }
    where
      basic : (v : ℕ) → v < length T'.variables → layer_of T' v ≡ None → (v < length C.vars) ⊎ (length C.vars ≤ v) → get_or full v 0 ≡ get_or s' v 0
      basic v below is (inl low) =
          lists.at v below
          ∙ ap (num C T choice v) (complete.basic (old C T choice v) (within (old C T choice v) (shown_below C T choice (old C T choice v) (old_at C T choice v low).0)) (sym (layer_low C T T' r v low) ∙ is))
          ∙ sym (shows.at v below)
      basic v below is (inr high) =
          lists.at v below
          ∙ num_high C T choice v (get_or (values T s) (old C T choice v) 0) high
          ∙ sym (num_high C T choice v (get_or s (old C T choice v) 0) high)
          ∙ sym (shows.at v below)

      derived : (v layer : ℕ) → v < length T'.variables → layer_of T' v ≡ Some layer → (v < length C.vars) ⊎ (length C.vars ≤ v) → get_or full v 0 ≡ option_map_or (λ (q : Rule). q.after) (firing_rule T' full v) (get_or T'.state v 0)
      derived v layer below is (inr high) = absurd (none-some layer (sym (layer_high C T T' r v high) ∙ is))
      derived v layer below is (inl low) =
          let is-old = sym (layer_low C T T' r v low) ∙ is in
          lists.at v below
          ∙ num_low C T choice v (get_or (values T s) (old C T choice v) 0) low
          ∙ ap (new_val C (old C T choice v)) (complete.derived (old C T choice v) layer (within (old C T choice v) (shown_below C T choice (old C T choice v) (old_at C T choice v low).0)) is-old)
          ∙ derived_same v low (firing_rule T (values T s) (old C T choice v)) refl (firing_rule T' full v) refl

  pub values_shown : Lists (length T'.variables) (λ v. num C T choice v (get_or (values T s) (old C T choice v) 0)) (values T' s')
  values_shown =
      record {
        count = ap length (sym same) ∙ lists.count;
        at = λ v below. ap (λ f. get_or f v 0) (sym same) ∙ lists.at v below;
      }
    where
      same : full ≡ values T' s'
      same = values_only T' valid' s' shows.count full completes
