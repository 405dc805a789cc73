-- Where each literal is positive and has a variable of its own, there is one way to satisfy them all.
use Rattle.std.proofs.Common.{◌≡◌, ℕ, ◌+◌, ◌<◌, true, false, ◌&&◌, ◌==◌, inl, inr, List, [], ◌∷◌, map, length, get_or, eqb, refl, sym, ap, ◌∙◌, subst, arith}
use Rattle.std.specs.List.{AllPairs, Contains, filter, filter_map, flat_map, list_any, list_all, range_with_len, IsAllAdjacentAnswer}
use Rattle.std.specs.List.Sorted.{IsPermutation, IsStrictlyIncreasing}
use Rattle.std.specs.Prelude.{nat_lt}
use Rattle.std.proofs.Math.Bool.{or-false}
use Rattle.std.proofs.lemmas.Bool.{ltb-true, eqb-true, eq-eqb, cond-true, false_from_ne_true}
use Rattle.std.proofs.lemmas.List.{get_or-map, length-map}
use Rattle.std.proofs.lemmas.List.Elements.{All-contains}
use Rattle.std.proofs.lemmas.List.Sorted.{IsPermutation-refl}
use Rattle.lists.proofs.Items.{any_map, filter_yes, filter_no}
use Rattle.lists.proofs.Ordered.{pairs_head, pairs_tail}
use Rattle.lists.proofs.Members.{no_member, member_first, member_later, member_cases}
use Rattle.sas_task.specs.declared.parts.Pair.{Pair}
use Rattle.ground_task.specs.declared.types.Cond.{Cond}
use Rattle.sas_task.specs.Pairs.{pair}
use Rattle.fdr_effects.specs.Places.{Cover, places, first_place, last_value}
use Rattle.fdr_effects.specs.Split.{split, combinations, values_left, is_looked_at}
use Rattle.fdr_effects.specs.Marks.{on, leaves}
use Rattle.fdr_effects.proofs.Combined.{single_ways}
use Rattle.fdr_effects.proofs.Looked.{looked_are}
use Rattle.fdr_effects.proofs.Marked.{values_are, looked_at_is, wanted_fit, pool_wanted}
use Rattle.fdr_effects.proofs.Rising.{IsBelowBy, rising_from}

-- the variables rise
pub rising : (ps : List Pair) → IsAllAdjacentAnswer (λ front back is_before. is_before ≡ nat_lt front.var back.var) ps true → IsStrictlyIncreasing (map (λ p. p.var) ps)
rising ps adjacent = λ k low.
    let within = subst (λ n. k + 1 < n) (length-map ps (λ p. p.var)) low in
    let p = get_or ps k (pair 0 0) in
    let q = get_or ps (k + 1) (pair 0 0) in
    let below : p.var < q.var = ltb-true p.var q.var (sym (adjacent k (pair 0 0) within)) in
    let first : get_or (map (λ (p : Pair). p.var) ps) k 0 ≡ p.var = get_or-map (λ (p : Pair). p.var) ps k (pair 0 0) 0 (omega (arith, within)) in
    let second : get_or (map (λ (p : Pair). p.var) ps) (k + 1) 0 ≡ q.var = get_or-map (λ (p : Pair). p.var) ps (k + 1) (pair 0 0) 0 within in
    omega (arith, below, first, second)

-- where no place is on the variable, none is left
on_none : (var : ℕ) (ps : List Pair) → ((q : Pair) → Contains ps q → eqb q.var var ≡ false) → on var ps ≡ []
on_none var [] apart = refl
on_none var (p ∷ ps) apart = filter_no (λ q. eqb q.var var) p ps (apart p (member_first p ps)) ∙ on_none var ps (λ q in'. apart q (member_later p q ps in'))

-- each place is alone on its variable
on_one : (ps : List Pair) → AllPairs (IsBelowBy (λ p. p.var)) ps → (p : Pair) → Contains ps p → on p.var ps ≡ p ∷ []
on_one [] pairs p in' = absurd (no_member p in')
on_one (q ∷ ps) pairs p in' = elim (member_cases q p ps in') [
  | inl here ↦
      subst (λ (r : Pair). on r.var (q ∷ ps) ≡ r ∷ []) here
      (filter_yes (λ r. eqb r.var q.var) q ps (eq-eqb q.var q.var refl)
      ∙ ap (λ l. q ∷ l) (on_none q.var ps (λ r later. false_from_ne_true (eqb r.var q.var) (λ same. let is = eqb-true r.var q.var same in let below = pairs_head (IsBelowBy (λ (p : Pair). p.var)) q ps pairs r later in omega (arith, is, below)))))
  | inr later ↦
      filter_no (λ r. eqb r.var p.var) q ps (false_from_ne_true (eqb q.var p.var) (λ same. let is = eqb-true q.var p.var same in let below = pairs_head (IsBelowBy (λ (p : Pair). p.var)) q ps pairs p later in omega (arith, is, below)))
      ∙ on_one ps (pairs_tail (IsBelowBy (λ (p : Pair). p.var)) q ps pairs) p later
]

all_single : (ps : List Pair) → list_all (λ (pool : List Pair). length pool == 1) (map (λ p. p ∷ []) ps) ≡ true
all_single [] = refl
all_single (p ∷ ps) = all_single ps

pools_are : (pools : ℕ → List Pair) (ps : List Pair) → ((p : Pair) → Contains ps p → pools p.var ≡ p ∷ []) → map pools (map (λ p. p.var) ps) ≡ map (λ p. p ∷ []) ps
pools_are pools [] each = refl
pools_are pools (p ∷ ps) each =
    ap (λ l. l ∷ map pools (map (λ (q : Pair). q.var) ps)) (each p (member_first p ps))
    ∙ ap (λ l. (p ∷ []) ∷ l) (pools_are pools ps (λ q in'. each q (member_later p q ps in')))

joined : (ps : List Pair) → flat_map (λ (pool : List Pair). pool) (map (λ p. p ∷ []) ps) ≡ ps
joined [] = refl
joined (p ∷ ps) = ap (λ l. p ∷ l) (joined ps)

module _ (cover : Cover) (literals : Cond ℕ) (wanted : List Pair) (wants : IsPermutation (flat_map (places cover) literals.positive) wanted) (none : literals.negative ≡ [])
    (rise : IsStrictlyIncreasing (map (λ p. p.var) wanted)) where
  bars : IsPermutation (filter_map (first_place cover) literals.negative) []
  bars = subst (λ (l : List ℕ). IsPermutation (filter_map (first_place cover) l) []) (sym none) (IsPermutation-refl [])

  abbrev vars : List ℕ
  vars = map (λ p. p.var) wanted

  looked : vars ≡ filter (is_looked_at cover literals) (range_with_len 0 (length cover))
  looked =
      looked_are cover literals vars rise
      (λ var. any_map (λ v. eqb v var) (λ (p : Pair). p.var) wanted ∙ sym (or-false (list_any (λ p. eqb p.var var) wanted)) ∙ sym (looked_at_is cover literals wanted [] wants bars var))

  -- the variable of a place has the place's value alone
  one_left : (p : Pair) → Contains wanted p → map (pair p.var) (values_left cover literals p.var) ≡ p ∷ []
  one_left p in' =
      let marked = on_one wanted (rising_from (λ (q : Pair). q.var) wanted rise) p in' in
      let low = All-contains (λ (q : Pair). q.val < last_value cover q.var + 1) wanted p (wanted_fit cover literals wanted [] wants bars) in' in
      ap (map (pair p.var)) (sym (values_are cover literals wanted [] wants bars p.var) ∙ ap (λ l. filter (leaves l []) (range_with_len 0 (last_value cover p.var + 1))) marked)
      ∙ sym (pool_wanted p.var (last_value cover p.var + 1) p [] [] low)
      ∙ cond-true (leaves (p ∷ []) [] p.val) (p ∷ []) [] (ap (λ b. (b && true) && true) (eq-eqb p.val p.val refl))

  pub one_way : split cover literals ≡ wanted ∷ []
  one_way =
      let pools = pools_are (λ var. map (pair var) (values_left cover literals var)) wanted one_left in
      ap (combinations (values_left cover literals)) (sym looked)
      ∙ single_ways (values_left cover literals) vars (ap (list_all (λ (pool : List Pair). length pool == 1)) pools ∙ all_single wanted)
      ∙ ap (λ l. flat_map (λ (pool : List Pair). pool) l ∷ []) pools ∙ ap (λ l. l ∷ []) (joined wanted)
