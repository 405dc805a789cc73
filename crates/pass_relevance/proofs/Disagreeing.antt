-- Two neighbours of what an operator's effects write are of one variable exactly where two effects give it different new values.
use Rattle.std.proofs.Common.{◌≡◌, ◌≢◌, ℕ, ◌+◌, ◌-◌, ◌<◌, ◌≤◌, Bool, true, false, cond, eqb, List, [], ◌∷◌, map, length, ◌⊎◌, refl, sym, ap, ◌∙◌, subst, inl, inr, arith}
use Rattle.std.specs.List.{Contains, range_with_len}
use Rattle.std.proofs.lemmas.Bool.{cases_lt, eq-eqb, eqb-true}
use Rattle.std.proofs.lemmas.List.{get_or_default}
use Rattle.std.proofs.lemmas.List.Elements.{Contains-get_or}
use Rattle.lists.proofs.Members.{no_member, member_first, member_single, member_map, map_member, member_flat_map, flat_map_member, member_range, range_member}
use Rattle.sas_task.specs.declared.parts.Pair.{Pair}
use Rattle.sas_task.specs.declared.parts.Effect.{Effect}
use Rattle.sas_task.specs.Effects.{fact_of}
use Rattle.sas_task.specs.Orders.{pair_cmp}
use Rattle.sas_task.specs.Valid.{ComesBefore}
use Rattle.sas_task.specs.TotalOrders.{pair_total}
use Rattle.sas_task.proofs.Sorted.{member_sorted, sorted_member}
use Rattle.sas_restriction.proofs.Exact.{pair_exact}
use Rattle.sas_restriction.proofs.Valid.{sorted_pairs}
use Rattle.names.specs.declared.arcs.Arc.{Arc}
use Rattle.pass_relevance.specs.Influences.{arc, written, arcs_of_two, pair_at, disagreements}

no_later : (p q : Pair) → ComesBefore p q → p.var ≤ q.var
no_later p q (inl less) = omega (arith, less)
no_later p q (inr same) = let e = same.0 in omega (arith, e)

apart : (p q : Pair) → ComesBefore p q → p.var ≡ q.var → p.val ≡ q.val → ⊥
apart p q (inl less) same e = absurd (omega (arith, less, same))
apart p q (inr more) same e = let less = more.1 in absurd (omega (arith, less, e))

module _ (node : ℕ) (effects : List Effect) where
  abbrev pairs : List Pair
  pairs = written effects

  abbrev at_place : ℕ → List Arc
  at_place = arcs_of_two node (written effects)

  before : (i j : ℕ) → i < j → j < length pairs → ComesBefore (pair_at pairs i) (pair_at pairs j)
  before i j lt low = sorted_pairs (map fact_of effects) i j (record { var = 0; val = 0 }) lt low

  -- the effect that writes the pair at a place
  writer : (i : ℕ) → i < length pairs → (e : Effect) × Contains effects e × (fact_of e ≡ pair_at pairs i)
  writer i low = map_member fact_of effects (pair_at pairs i) (sorted_member pair_cmp pair_total (map fact_of effects) (pair_at pairs i) (Contains-get_or pairs i (record { var = 0; val = 0 }) low))

  -- the place of what an effect writes
  place_of : (e : Effect) → Contains effects e → (i : ℕ) × (i < length pairs) × (pair_at pairs i ≡ fact_of e)
  place_of e in' =
      let there = member_sorted pair_cmp pair_total (map fact_of effects) (λ x y in-x in-y. pair_exact x y) (fact_of e) (member_map fact_of effects e in') in
      (there.0, there.1, get_or_default pairs there.0 (record { var = 0; val = 0 }) (fact_of e) there.1 ∙ there.2)

  -- two effects that give a variable different new values
  pub record Disagreeing (var : ℕ) : Type 0 where
    pub one : Effect
    pub two : Effect
    pub in_one : Contains effects one
    pub in_two : Contains effects two
    pub same : one.var ≡ two.var
    pub differ : one.after ≢ two.after
    pub is : one.var ≡ var

  pub disagreeing : (a : Arc) → Contains (disagreements node (written effects)) a → (var : ℕ) × (arc node var ≡ a) × Disagreeing var
  disagreeing a in' =
      let from = flat_map_member at_place (range_with_len 0 (length pairs - 1)) a in' in
      by_test from.0 (range_member (length pairs - 1) from.0 from.1) (eqb (pair_at pairs from.0).var (pair_at pairs (from.0 + 1)).var) refl from.2
    where
      by_test : (i : ℕ) → i < length pairs - 1 → (b : Bool) → eqb (pair_at pairs i).var (pair_at pairs (i + 1)).var ≡ b → Contains (cond b (arc node (pair_at pairs i).var ∷ []) []) a → (var : ℕ) × (arc node var ≡ a) × Disagreeing var
      by_test i low false is here = absurd (no_member a here)
      by_test i low true is here =
          let one = writer i (omega (arith, low)) in
          let two = writer (i + 1) (omega (arith, low)) in
          let same : (pair_at pairs i).var ≡ (pair_at pairs (i + 1)).var = eqb-true (pair_at pairs i).var (pair_at pairs (i + 1)).var is in (
            (pair_at pairs i).var,
            member_single (arc node (pair_at pairs i).var) a here,
            record {
              one = one.0;
              two = two.0;
              in_one = one.1;
              in_two = two.1;
              same = ap (λ (p : Pair). p.var) one.2 ∙ same ∙ sym (ap (λ (p : Pair). p.var) two.2);
              differ = λ e. apart (pair_at pairs i) (pair_at pairs (i + 1)) (before i (i + 1) (omega arith) (omega (arith, low))) same (sym (ap (λ (p : Pair). p.val) one.2) ∙ e ∙ ap (λ (p : Pair). p.val) two.2);
              is = ap (λ (p : Pair). p.var) one.2;
            },
          )

  neighbours : (i j : ℕ) → i < j → j < length pairs → (pair_at pairs i).var ≡ (pair_at pairs j).var → Contains (disagreements node (written effects)) (arc node (pair_at pairs i).var)
  neighbours i j lt low same =
      member_flat_map at_place (range_with_len 0 (length pairs - 1)) i (arc node (pair_at pairs i).var) (member_range (length pairs - 1) i (omega (arith, lt, low)))
      (subst (λ b. Contains (cond b (arc node (pair_at pairs i).var ∷ []) []) (arc node (pair_at pairs i).var)) (sym (eq-eqb (pair_at pairs i).var (pair_at pairs (i + 1)).var next)) (member_first (arc node (pair_at pairs i).var) []))
    where
      up : (pair_at pairs i).var ≤ (pair_at pairs (i + 1)).var
      up = no_later (pair_at pairs i) (pair_at pairs (i + 1)) (before i (i + 1) (omega arith) (omega (arith, lt, low)))

      on : (pair_at pairs (i + 1)).var ≤ (pair_at pairs j).var
      on =
          elim (cases_lt (i + 1) j) [
            | inl more ↦ no_later (pair_at pairs (i + 1)) (pair_at pairs j) (before (i + 1) j more low)
            | inr end ↦ let e : i + 1 ≡ j = omega (arith, end, lt) in subst (λ k. (pair_at pairs (i + 1)).var ≤ (pair_at pairs k).var) e (omega arith)
          ]

      next : (pair_at pairs i).var ≡ (pair_at pairs (i + 1)).var
      next = let u = up in let o = on in omega (arith, u, o, same)

  pub some_arc : (a b : Effect) → Contains effects a → Contains effects b → a.var ≡ b.var → a.after ≢ b.after → Contains (disagreements node (written effects)) (arc node a.var)
  some_arc a b in-a in-b same differ = by_order (cases_lt (place_of a in-a).0 (place_of b in-b).0) (cases_lt (place_of b in-b).0 (place_of a in-a).0)
    where
      i : ℕ
      i = (place_of a in-a).0

      j : ℕ
      j = (place_of b in-b).0

      var-a : (pair_at pairs i).var ≡ a.var
      var-a = ap (λ (p : Pair). p.var) (place_of a in-a).2

      var-b : (pair_at pairs j).var ≡ b.var
      var-b = ap (λ (p : Pair). p.var) (place_of b in-b).2

      by_order : (i < j) ⊎ (j ≤ i) → (j < i) ⊎ (i ≤ j) → Contains (disagreements node (written effects)) (arc node a.var)
      by_order (inl lt) other = subst (λ v. Contains (disagreements node (written effects)) (arc node v)) var-a (neighbours i j lt (place_of b in-b).1 (var-a ∙ same ∙ sym var-b))
      by_order (inr le) (inl lt) = subst (λ v. Contains (disagreements node (written effects)) (arc node v)) (var-b ∙ sym same) (neighbours j i lt (place_of a in-a).1 (var-b ∙ sym same ∙ sym var-a))
      by_order (inr le) (inr ge) =
          let e : i ≡ j = omega (arith, le, ge) in
          absurd (differ (ap (λ (p : Pair). p.val) (sym (place_of a in-a).2 ∙ ap (pair_at pairs) e ∙ (place_of b in-b).2)))
