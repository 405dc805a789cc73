-- A fact of a task has a number of its own.
use Rattle.std.proofs.Common.{◌≡◌, ℕ, zero, suc, ◌+◌, ◌<◌, ◌≤◌, Bool, true, false, cond, ◌&&◌, eqb, List, ◌++◌, length, get_or, Option, Some, None, ◌⊎◌, refl, sym, ap, ◌∙◌, subst, inl, inr, arith}
use Rattle.std.specs.List.{slice_get}
use Rattle.std.specs.Option.{option_map_or}
use Rattle.std.proofs.lemmas.Bool.{cases_lt, eq-eqb, eqb-true, and_parts, and_from, false≢true}
use Rattle.std.proofs.lemmas.Option.{same_Some, slice_get-get_or}
use Rattle.std.proofs.lemmas.List.{length-append, get_or-append-add, get_or_append_left}
use Rattle.std.proofs.lemmas.List.FromFn.{get_or-map-range_with_len, length-map-range_with_len}
use Rattle.lists.proofs.LoopSteps.{flat_map_range_next}
use Rattle.lists.proofs.Members.{range_member}
use Rattle.sas_task.specs.declared.parts.Pair.{Pair}
use Rattle.sas_task.specs.Task.{Task}
use Rattle.sas_task.specs.Pairs.{pair}
use Rattle.sas_task.specs.Valid.{IsFact}
use Rattle.sas_task.proofs.States.{is_variable}
use Rattle.sas_restriction.specs.Choice.{variable_at}
use Rattle.sas_restriction.proofs.AllValues.{value_member}
use Rattle.pass_h2.specs.Facts.{facts_at, facts_below, all_facts, starts, is_at, number}
use Rattle.sas_task.proofs.RisingPairs.{pair_is}

-- ---- the fact at a place

at_place : (facts : List Pair) (place : ℕ) (p : Pair) → is_at facts place p ≡ true → slice_get facts place ≡ Some p
at_place facts place p is = by_option (slice_get facts place) refl is
  where
    by_option : (o : Option Pair) → slice_get facts place ≡ o → option_map_or (λ (q : Pair). eqb q.var p.var && eqb q.val p.val) o false ≡ true → slice_get facts place ≡ Some p
    by_option None at is = absurd (false≢true is)
    by_option (Some q) at is = let parts = and_parts (eqb q.var p.var) (eqb q.val p.val) is in at ∙ ap (λ q. Some q) (pair_is q p (eqb-true q.var p.var parts.0) (eqb-true q.val p.val parts.1))

at_own : (facts : List Pair) (place : ℕ) (p : Pair) → slice_get facts place ≡ Some p → is_at facts place p ≡ true
at_own facts place p at =
    ap (λ o. option_map_or (λ (q : Pair). eqb q.var p.var && eqb q.val p.val) o false) at ∙ and_from (eqb p.var p.var) (eqb p.val p.val) (eq-eqb p.var p.var refl) (eq-eqb p.val p.val refl)

pub numbered : (facts : List Pair) (starts : List ℕ) (p : Pair) → number facts starts p < length facts → slice_get facts (number facts starts p) ≡ Some p
numbered facts starts p low = by_test (is_at facts (get_or starts p.var 0 + p.val) p) refl low
  where
    by_test : (b : Bool) → is_at facts (get_or starts p.var 0 + p.val) p ≡ b → cond b (get_or starts p.var 0 + p.val) (length facts) < length facts → slice_get facts (cond b (get_or starts p.var 0 + p.val) (length facts)) ≡ Some p
    by_test true is low = at_place facts (get_or starts p.var 0 + p.val) p is
    by_test false is low = absurd (omega (arith, low))

pub one_number : (facts : List Pair) (starts : List ℕ) (p q : Pair) → number facts starts p < length facts → number facts starts q < length facts → number facts starts p ≡ number facts starts q → p ≡ q
one_number facts starts p q low-p low-q same =
    same_Some p q (sym (numbered facts starts p low-p) ∙ ap (slice_get facts) same ∙ numbered facts starts q low-q)

-- ---- facts of a task

module _ (T : Task) where
  below_at : (n v val : ℕ) (d : Pair) → v < n → val < length (variable_at T v).facts →
      (length (facts_below T v) + val < length (facts_below T n)) × (get_or (facts_below T n) (length (facts_below T v) + val) d ≡ pair v val)
  below_at zero v val d low within = absurd (omega (arith, low))
  below_at (suc m) v val d low within = subst (λ xs. (length (facts_below T v) + val < length xs) × (get_or xs (length (facts_below T v) + val) d ≡ pair v val)) (sym next) (by_order (λ before. below_at m v val d before within) (cases_lt v m))
    where
      next : facts_below T (suc m) ≡ facts_below T m ++ facts_at T m
      next = let e : suc m ≡ m + 1 = omega arith in ap (facts_below T) e ∙ flat_map_range_next (facts_at T) m

      by_order : (v < m → (length (facts_below T v) + val < length (facts_below T m)) × (get_or (facts_below T m) (length (facts_below T v) + val) d ≡ pair v val)) → (v < m) ⊎ (m ≤ v) → (length (facts_below T v) + val < length (facts_below T m ++ facts_at T m)) × (get_or (facts_below T m ++ facts_at T m) (length (facts_below T v) + val) d ≡ pair v val)
      by_order rest (inl before) =
          let ih = rest before in
          let more = length-append (facts_below T m) (facts_at T m) in
          (omega (arith, ih.0, more), get_or_append_left (facts_below T m) (facts_at T m) d (length (facts_below T v) + val) ih.0 ∙ ih.1)
      by_order rest (inr here) =
          let e : v ≡ m = omega (arith, here, low) in
          let more = length-append (facts_below T m) (facts_at T m) in
          let own : length (facts_at T m) ≡ length (variable_at T m).facts = length-map-range_with_len (pair m) 0 (length (variable_at T m).facts) in
          let in-m : val < length (variable_at T m).facts = subst (λ w. val < length (variable_at T w).facts) e within in
          let z : 0 + val ≡ val = omega arith in
          subst (λ w. (length (facts_below T w) + val < length (facts_below T m ++ facts_at T m)) × (get_or (facts_below T m ++ facts_at T m) (length (facts_below T w) + val) d ≡ pair w val)) (sym e) (
            omega (arith, more, own, in-m),
            (get_or-append-add (facts_below T m) (facts_at T m) val d ∙ get_or-map-range_with_len (pair m) 0 (length (variable_at T m).facts) val val d in-m z),
          )

  -- each fact has a number
  pub has_number : (p : Pair) → IsFact T p → number (all_facts T) (starts T) p < length (all_facts T)
  has_number p fact = subst (λ b. cond b (get_or (starts T) p.var 0 + p.val) (length (all_facts T)) < length (all_facts T)) (sym own) within
    where
      low : p.var < length T.variables
      low = is_variable T p.var p.val fact

      there : (length (facts_below T p.var) + p.val < length (all_facts T)) × (get_or (all_facts T) (length (facts_below T p.var) + p.val) p ≡ pair p.var p.val)
      there = below_at (length T.variables) p.var p.val p low (range_member (length (variable_at T p.var).facts) p.val (value_member T p.var p.val fact))

      start : get_or (starts T) p.var 0 ≡ length (facts_below T p.var)
      start = let e : 0 + p.var ≡ p.var = omega arith in get_or-map-range_with_len (λ var. length (facts_below T var)) 0 (length T.variables) p.var p.var 0 low e

      within : get_or (starts T) p.var 0 + p.val < length (all_facts T)
      within = subst (λ s. s + p.val < length (all_facts T)) (sym start) there.0

      at : slice_get (all_facts T) (get_or (starts T) p.var 0 + p.val) ≡ Some p
      at =
          slice_get-get_or (all_facts T) (get_or (starts T) p.var 0 + p.val) p within
          ∙ ap (λ s. Some (get_or (all_facts T) (s + p.val) p)) start
          ∙ ap (λ q. Some q) (there.1 ∙ pair_is (pair p.var p.val) p refl refl)

      own : is_at (all_facts T) (get_or (starts T) p.var 0 + p.val) p ≡ true
      own = at_own (all_facts T) (get_or (starts T) p.var 0 + p.val) p at
