-- The rivals on a variable are the add effects on its facts.
use Rattle.std.proofs.Common.{◌≡◌, ℕ, ◌<◌, Bool, true, false, cond, not, eqb, ltb, ◌&&◌, ◌||◌, List, [], ◌∷◌, ◌++◌, map, length, refl, sym, ap, ◌∙◌, inl, inr, arith}
use Rattle.std.specs.List.{AllPairs, filter, flat_map, list_any, position_or_len, range_with_len}
use Rattle.std.specs.List.Sorted.{IsStableByKey}
use Rattle.std.specs.Ordering.{nat_cmp, is_lt}
use Rattle.std.specs.declared.cmp.Ordering.TheVariants.{Less, Equal, Greater}
use Rattle.std.proofs.lemmas.Bool.{cases_lt, lt-ltb, ltb-true, eqb-true, eq-eqb, false_from_ne_true}
use Rattle.std.proofs.lemmas.List.{map-append}
use Rattle.std.proofs.lemmas.List.Elements.{filter-append}
use Rattle.std.proofs.lemmas.List.Kept.{AllPairs-filter}
use Rattle.lists.specs.Members.{is_among}
use Rattle.sas_task.specs.declared.parts.Pair.{Pair}
use Rattle.ground_task.specs.declared.types.Cond.{Cond}
use Rattle.reached_task.specs.declared.types.ReachedEffect.{ReachedEffect}
use Rattle.fdr_effects.specs.declared.rivals.Rival.{Rival}
use Rattle.sas_task.specs.Pairs.{pair}
use Rattle.fdr_effects.specs.Places.{Cover, set_of, places, stands_in}
use Rattle.fdr_effects.specs.Effects.{rivals}
use Rattle.fdr_effects.specs.Rivals.{seen, rivals_of, conditions_on, AreRivals}
use Rattle.lists.proofs.Members.{map_member, filter_none}
use Rattle.lists.proofs.Ordered.{pairs_head, pairs_tail}
use Rattle.fdr_effects.proofs.Rising.{IsBelowBy, range_rises, pairs_map}

-- ---- keys that tie are the same

lt_is : (v w : ℕ) → is_lt (nat_cmp v w) ≡ ltb v w
lt_is v w = by_case (ltb v w) (eqb v w)
  where
    by_case : (a b : Bool) → is_lt (cond a Less (cond b Equal Greater)) ≡ a
    by_case true b = refl
    by_case false true = refl
    by_case false false = refl

tie_is : (v w : ℕ) → (not (ltb v w) && not (ltb w v)) ≡ eqb w v
tie_is v w =
    elim (cases_lt v w) [
      | inl less ↦ ap (λ b. not b && not (ltb w v)) (lt-ltb v w less) ∙ sym (false_from_ne_true (eqb w v) (λ h. let e = eqb-true w v h in absurd (omega arith)))
      | inr past ↦
          let no-less : ltb v w ≡ false = false_from_ne_true (ltb v w) (λ h. let e = ltb-true v w h in absurd (omega arith)) in
          ap (λ b. not b && not (ltb w v)) no-less
          ∙ elim (cases_lt w v) [
            | inl more ↦ ap not (lt-ltb w v more) ∙ sym (false_from_ne_true (eqb w v) (λ h. let e = eqb-true w v h in absurd (omega arith)))
            | inr up ↦ ap not (false_from_ne_true (ltb w v) (λ h. let e = ltb-true w v h in absurd (omega arith))) ∙ sym (eq-eqb w v (omega arith))
          ]
    ]

-- a stable sort by variable leaves those on one variable in their order
stable_on : (var : ℕ) (before after : List Rival) → IsStableByKey (λ r. r.var) nat_cmp before after → filter (λ r. eqb r.var var) after ≡ filter (λ r. eqb r.var var) before
stable_on var before after stable = by_case before after stable
  where
    same : (bs as' : List Rival) → IsStableByKey (λ r. r.var) nat_cmp bs as' → Rival → filter (λ r. eqb r.var var) as' ≡ filter (λ r. eqb r.var var) bs
    same bs as' stable some =
        let one : Rival = record { var = var; condition = some.condition } in
        let tie = λ (r : Rival). ap (λ b. not b && not (is_lt (nat_cmp r.var var))) (lt_is var r.var) ∙ ap (λ b. not (ltb var r.var) && not b) (lt_is r.var var) ∙ tie_is var r.var in
        ap (λ (test : Rival → Bool). filter test as') (λ i r. sym (tie r) i) ∙ stable one ∙ ap (λ (test : Rival → Bool). filter test bs) (λ i r. tie r i)

    by_case : (bs as' : List Rival) → IsStableByKey (λ r. r.var) nat_cmp bs as' → filter (λ r. eqb r.var var) as' ≡ filter (λ r. eqb r.var var) bs
    by_case [] [] stable = refl
    by_case [] (r ∷ as') stable = same [] (r ∷ as') stable r
    by_case (r ∷ bs) as' stable = same (r ∷ bs) as' stable r

-- ---- the rivals of one effect

abbrev on : ℕ → ℕ × Cond ℕ → Bool
on var r = eqb r.0 var

abbrev second : ℕ × Cond ℕ → Cond ℕ
second r = r.1

-- a variable stands once in a list that rises by variable
once_on : (var : ℕ) (c : Cond ℕ) (ps : List Pair) → AllPairs (IsBelowBy (λ p. p.var)) ps → map second (filter (on var) (map (λ (p : Pair). (p.var, c)) ps)) ≡ cond (list_any (λ p. eqb p.var var) ps) (c ∷ []) []
once_on var c [] rises = refl
once_on var c (p ∷ ps) rises = by_case (eqb p.var var) refl (once_on var c ps (pairs_tail (IsBelowBy (λ p. p.var)) p ps rises))
  where
    others : eqb p.var var ≡ true → filter (on var) (map (λ (q : Pair). (q.var, c)) ps) ≡ []
    others here =
        filter_none (on var) (map (λ (q : Pair). (q.var, c)) ps) (λ r in'.
        let q = map_member (λ (q : Pair). (q.var, c)) ps r in' in
        let more = pairs_head (IsBelowBy (λ p. p.var)) p ps rises q.0 q.1 in
        let at = ap (λ (r : ℕ × Cond ℕ). r.0) q.2 in
        let e = eqb-true p.var var here in
        false_from_ne_true (eqb r.0 var) (λ h. let f = eqb-true r.0 var h in absurd (omega arith)))

    by_case : (b : Bool) → eqb p.var var ≡ b → map second (filter (on var) (map (λ (q : Pair). (q.var, c)) ps)) ≡ cond (list_any (λ p. eqb p.var var) ps) (c ∷ []) [] → map second (cond b ((p.var, c) ∷ filter (on var) (map (λ (q : Pair). (q.var, c)) ps)) (filter (on var) (map (λ (q : Pair). (q.var, c)) ps))) ≡ cond (b || list_any (λ p. eqb p.var var) ps) (c ∷ []) []
    by_case true here more = ap (λ (l : List (ℕ × Cond ℕ)). c ∷ map second l) (others here)
    by_case false off more = more

places_rise : (cover : Cover) (fact : ℕ) → AllPairs (IsBelowBy (λ p. p.var)) (places cover fact)
places_rise cover fact =
    pairs_map (IsBelowBy (λ (p : Pair). p.var)) (λ v w. v < w) (λ var. pair var (position_or_len (eqb fact) (set_of cover var))) (filter (λ var. is_among eqb (set_of cover var) fact) (range_with_len 0 (length cover))) (λ v w less. less)
    (AllPairs-filter (λ v w. v < w) (λ var. is_among eqb (set_of cover var) fact) (range_with_len 0 (length cover)) (range_rises (length cover)))

of_effect : (cover : Cover) (var : ℕ) (e : ReachedEffect) → map second (filter (on var) (rivals_of cover e)) ≡ map (λ (q : ReachedEffect). q.condition) (filter (λ q. q.adds && stands_in cover q.fact var) (e ∷ []))
of_effect cover var e = by_case e.adds
  where
    listed : (b : Bool) → cond b (e.condition ∷ []) [] ≡ map (λ (q : ReachedEffect). q.condition) (cond b (e ∷ []) [])
    listed true = refl
    listed false = refl

    by_case : (b : Bool) → map second (filter (on var) (cond b (map (λ (p : Pair). (p.var, e.condition)) (places cover e.fact)) [])) ≡ map (λ (q : ReachedEffect). q.condition) (cond (b && stands_in cover e.fact var) (e ∷ []) [])
    by_case true = once_on var e.condition (places cover e.fact) (places_rise cover e.fact) ∙ listed (stands_in cover e.fact var)
    by_case false = refl

-- ---- the rivals of all

of_effects : (cover : Cover) (var : ℕ) (es : List ReachedEffect) → map second (filter (on var) (flat_map (rivals_of cover) es)) ≡ rivals cover es var
of_effects cover var [] = refl
of_effects cover var (e ∷ es) =
    let adds = λ (q : ReachedEffect). q.adds && stands_in cover q.fact var in
    let more = flat_map (rivals_of cover) es in
    ap (map second) (filter-append (on var) (rivals_of cover e) more)
    ∙ map-append second (filter (on var) (rivals_of cover e)) (filter (on var) more)
    ∙ ap (λ l. l ++ map second (filter (on var) more)) (of_effect cover var e)
    ∙ ap (λ l. map (λ (q : ReachedEffect). q.condition) (filter adds (e ∷ [])) ++ l) (of_effects cover var es)
    ∙ sym (ap (map (λ (q : ReachedEffect). q.condition)) (filter-append adds (e ∷ []) es) ∙ map-append (λ (q : ReachedEffect). q.condition) (filter adds (e ∷ [])) (filter adds es))

by_seen : (var : ℕ) (rs : List Rival) → conditions_on var rs ≡ map second (filter (on var) (map seen rs))
by_seen var [] = refl
by_seen var (r ∷ rs) = by_case (eqb r.var var) (by_seen var rs)
  where
    by_case : (b : Bool) → conditions_on var rs ≡ map second (filter (on var) (map seen rs)) → map (λ (q : Rival). q.condition.now) (cond b (r ∷ filter (λ q. eqb q.var var) rs) (filter (λ q. eqb q.var var) rs)) ≡ map second (cond b (seen r ∷ filter (on var) (map seen rs)) (filter (on var) (map seen rs)))
    by_case true more = ap (λ l. r.condition.now ∷ l) more
    by_case false more = more

pub are_rivals : (cover : Cover) (effects : List ReachedEffect) (before after : List Rival) → IsStableByKey (λ r. r.var) nat_cmp before after → map seen before ≡ flat_map (rivals_of cover) effects → AreRivals cover effects after
are_rivals cover effects before after stable made var =
    ap (map (λ (r : Rival). r.condition.now)) (stable_on var before after stable)
    ∙ by_seen var before
    ∙ ap (λ l. map second (filter (on var) l)) made
    ∙ of_effects cover var effects
