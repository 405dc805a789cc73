-- Some member of the split of literals holds in the values exactly where the literals hold in the state.
use Rattle.std.proofs.Common.{Bool, ◌≡◌, ℕ, ◌+◌, ◌<◌, true, false, not, ◌&&◌, ◌||◌, eqb, List, [], ◌∷◌, map, length, get_or, refl, sym, ap, ◌∙◌, subst, inl, inr, arith}
use Rattle.std.specs.List.{Contains, list_all, list_any, filter, range_with_len}
use Rattle.std.specs.Option.{option_map_or}
use Rattle.std.proofs.lemmas.Bool.{cases_Bool, eqb-true, eq-eqb, and_parts, and_from, or_cases, or_left, or_right, not-true, not_from_false, both_ways, false_from_ne_true}
use Rattle.std.proofs.lemmas.List.Sums.{prefix_len-le-length}
use Rattle.sas_task.specs.declared.parts.Pair.{Pair}
use Rattle.sas_task.specs.Values.{all_hold}
use Rattle.lists.proofs.Members.{no_member, member_first, member_later, member_cases, member_flat_map, flat_map_member, member_range, range_member, all_pass, each_passes, member_map, map_member, member_filter, filter_member, member_any, member_single}
use Rattle.ground_task.specs.declared.types.Cond.{Cond}
use Rattle.ground_task.specs.Literals.{holds}
use Rattle.planning.specs.Task.{State}
use Rattle.sas_task.specs.Pairs.{pair}
use Rattle.fdr_effects.specs.Places.{Cover, set_of, places, first_place, stands_in, last_value, value_in}
use Rattle.fdr_effects.specs.Split.{is_looked_at, is_left, values_left, combinations, split}
use Rattle.fdr_encoder.specs.Simulates.{Shows}
use Rattle.fdr_effects.proofs.Placed.{AreExclusive, Stands, AllStand, place_is, place_stands, first, first_in, first_is, value_of_true, true_of_value}

module _ (cover : Cover) (state : State ℕ) (one : AreExclusive cover state) (now : List ℕ) (shows : Shows cover state now) (literals : Cond ℕ) (stand : AllStand cover literals) where
  -- what is asked of a value for a positive and for a negative literal
  abbrev keeps : ℕ → ℕ → ℕ → Bool
  keeps var val f = list_all (λ p. not (eqb p.var var) || eqb p.val val) (places cover f)

  abbrev spares : ℕ → ℕ → ℕ → Bool
  spares var val f = option_map_or (λ p. not (eqb p.var var && eqb p.val val)) (first_place cover f) true

  spares_first : (var val f : ℕ) → Stands cover f → spares var val f ≡ not (eqb (first cover f).var var && eqb (first cover f).val val)
  spares_first var val f stands = ap (λ o. option_map_or (λ (p : Pair). not (eqb p.var var && eqb p.val val)) o true) (first_is cover f stands)

  -- literals that hold leave each variable its value
  left_in : holds state literals ≡ true → (var : ℕ) → is_left cover literals var (value_in cover state var) ≡ true
  left_in is var =
      let val = value_in cover state var in
      let parts = and_parts (list_all state literals.positive) (list_all (λ f. not (state f)) literals.negative) is in
      and_from _ _
      (each_passes (keeps var val) literals.positive (λ f in'.
      each_passes (λ p. not (eqb p.var var) || eqb p.val val) (places cover f) (λ p p-in.
      elim (cases_Bool (eqb p.var var)) [
        | inl on ↦
            let same = eqb-true p.var var on in
            or_right (not (eqb p.var var)) _ (eq-eqb p.val val (sym (value_of_true cover f state one p p-in (all_pass state literals.positive f parts.0 in')) ∙ ap (value_in cover state) same))
        | inr off ↦ or_left _ (eqb p.val val) (not_from_false (eqb p.var var) off)
      ])))
      (each_passes (spares var val) literals.negative (λ f in'.
      let false' = not-true (state f) (all_pass (λ g. not (state g)) literals.negative f parts.1 in') in
      let stands = stand.negative f in' in
      spares_first var val f stands ∙ not_from_false _ (false_from_ne_true _ (λ hit.
      let here = and_parts (eqb (first cover f).var var) (eqb (first cover f).val val) hit in
      both_ways (state f) false' (true_of_value cover f state (first cover f) (first_in cover f stands)
      (ap (value_in cover state) (eqb-true (first cover f).var var here.0) ∙ sym (eqb-true (first cover f).val val here.1)))))))

  combinations_on : holds state literals ≡ true → (vars : List ℕ) → ((var : ℕ) → Contains vars var → var < length cover) → (m : List Pair) × Contains (combinations (values_left cover literals) vars) m × (all_hold now m ≡ true)
  combinations_on is [] below = ([], member_first [] [], refl)
  combinations_on is (var ∷ vars) below =
      let rest = combinations_on is vars (λ v in'. below v (member_later var v vars in')) in
      let val = value_in cover state var in
      let var-below = below var (member_first var vars) in
      let small = prefix_len-le-length (λ f. not (state f)) (set_of cover var) in
      let in-range : Contains (range_with_len 0 (last_value cover var + 1)) val = member_range (last_value cover var + 1) val (omega arith) in
      let in-left = member_filter (is_left cover literals var) (range_with_len 0 (last_value cover var + 1)) val in-range (left_in is var) in
      let whole : List Pair = pair var val ∷ rest.0 in (
        whole,
        member_flat_map (λ v. map (λ r. pair var v ∷ r) (combinations (values_left cover literals) vars)) (values_left cover literals var) val whole in-left (member_map (λ r. pair var val ∷ r) (combinations (values_left cover literals) vars) rest.0 rest.1),
        and_from _ _ (eq-eqb (get_or now var 0) val (shows var var-below)) rest.2,
      )

  combinations_back : (vars : List ℕ) (m : List Pair) → Contains (combinations (values_left cover literals) vars) m → all_hold now m ≡ true → (var : ℕ) → Contains vars var → var < length cover → is_left cover literals var (value_in cover state var) ≡ true
  combinations_back [] m in' hold var none below = absurd (no_member var none)
  combinations_back (v ∷ vars) m in' hold var here below =
      let of-val = flat_map_member (λ val. map (λ r. pair v val ∷ r) (combinations (values_left cover literals) vars)) (values_left cover literals v) m in' in
      let of-rest = map_member (λ r. pair v of-val.0 ∷ r) (combinations (values_left cover literals) vars) m of-val.2 in
      let parts = and_parts (eqb (get_or now v 0) of-val.0) (all_hold now of-rest.0) (subst (λ q. all_hold now q ≡ true) (sym of-rest.2) hold) in
      elim (member_cases v var vars here) [
        | inl same ↦
            let at : value_in cover state var ≡ of-val.0 = sym (shows var below) ∙ ap (λ w. get_or now w 0) (sym same) ∙ eqb-true (get_or now v 0) of-val.0 parts.0 in
            let left = (filter_member (is_left cover literals v) (range_with_len 0 (last_value cover v + 1)) of-val.0 of-val.1).1 in
            ap (λ x. is_left cover literals var x) at ∙ ap (λ w. is_left cover literals w of-val.0) (sym same) ∙ left
        | inr later ↦ combinations_back vars of-rest.0 of-rest.1 parts.1 var later below
      ]

  -- literals that hold have a member that holds
  pub split_on : holds state literals ≡ true → (m : List Pair) × Contains (split cover literals) m × (all_hold now m ≡ true)
  split_on is =
      combinations_on is (filter (is_looked_at cover literals) (range_with_len 0 (length cover))) (λ var in'.
      range_member (length cover) var (filter_member (is_looked_at cover literals) (range_with_len 0 (length cover)) var in').0)

  -- a member that holds says that the literals hold
  pub split_back : (m : List Pair) → Contains (split cover literals) m → all_hold now m ≡ true → holds state literals ≡ true
  split_back m in' hold =
      let looked = λ (var : ℕ) (below : var < length cover) (is : is_looked_at cover literals var ≡ true).
      combinations_back (filter (is_looked_at cover literals) (range_with_len 0 (length cover))) m in' hold var (member_filter (is_looked_at cover literals) (range_with_len 0 (length cover)) var (member_range (length cover) var below) is) below in
      and_from _ _
      (each_passes state literals.positive (λ f here.
      let p = first cover f in
      let p-in = first_in cover f (stand.positive f here) in
      let left = looked p.var (place_is cover f p p-in).below (or_left (list_any (λ g. stands_in cover g p.var) literals.positive) _ (member_any (λ g. stands_in cover g p.var) literals.positive f here (place_stands cover f p p-in))) in
      let says = all_pass (λ p'. not (eqb p'.var p.var) || eqb p'.val (value_in cover state p.var)) (places cover f) p (all_pass (keeps p.var (value_in cover state p.var)) literals.positive f (and_parts _ _ left).0 here) p-in in
      elim (or_cases (not (eqb p.var p.var)) (eqb p.val (value_in cover state p.var)) says) [
        | inl off ↦ absurd (both_ways (eqb p.var p.var) (not-true (eqb p.var p.var) off) (eq-eqb p.var p.var refl))
        | inr hit ↦ true_of_value cover f state p p-in (sym (eqb-true p.val (value_in cover state p.var) hit))
      ]))
      (each_passes (λ f. not (state f)) literals.negative (λ f here.
      let stands = stand.negative f here in
      let p = first cover f in
      let p-in = first_in cover f stands in
      let is-first : option_map_or (λ q. eqb q.var p.var) (first_place cover f) false ≡ true = ap (λ o. option_map_or (λ (q : Pair). eqb q.var p.var) o false) (first_is cover f stands) ∙ eq-eqb p.var p.var refl in
      let left = looked p.var (place_is cover f p p-in).below (or_right (list_any (λ g. stands_in cover g p.var) literals.positive) _ (member_any (λ g. option_map_or (λ q. eqb q.var p.var) (first_place cover g) false) literals.negative f here is-first)) in
      let says = sym (spares_first p.var (value_in cover state p.var) f stands) ∙ all_pass (spares p.var (value_in cover state p.var)) literals.negative f (and_parts _ _ left).1 here in
      not_from_false (state f) (false_from_ne_true (state f) (λ is.
      both_ways (eqb p.var p.var && eqb p.val (value_in cover state p.var)) (not-true _ says)
      (and_from _ _ (eq-eqb p.var p.var refl) (eq-eqb p.val (value_in cover state p.var) (sym (value_of_true cover f state one p p-in is))))))))

-- each pair of a member names a variable of the cover and one of its values
module _ (cover : Cover) (literals : Cond ℕ) where
  pub combination_pairs : (vars : List ℕ) (m : List Pair) → Contains (combinations (values_left cover literals) vars) m → (p : Pair) → Contains m p → Contains vars p.var × (p.val < last_value cover p.var + 1)
  combination_pairs [] m in' p p-in = absurd (no_member p (subst (λ l. Contains l p) (sym (member_single [] m in')) p-in))
  combination_pairs (v ∷ vars) m in' p p-in =
      let of-val = flat_map_member (λ val. map (λ r. pair v val ∷ r) (combinations (values_left cover literals) vars)) (values_left cover literals v) m in' in
      let of-rest = map_member (λ r. pair v of-val.0 ∷ r) (combinations (values_left cover literals) vars) m of-val.2 in
      elim (member_cases (pair v of-val.0) p of-rest.0 (subst (λ l. Contains l p) (sym of-rest.2) p-in)) [
        | inl same ↦
            let low = range_member (last_value cover v + 1) of-val.0 (filter_member (is_left cover literals v) (range_with_len 0 (last_value cover v + 1)) of-val.0 of-val.1).0 in
            subst (λ q. Contains (v ∷ vars) q.var × (q.val < last_value cover q.var + 1)) same (member_first v vars, low)
        | inr later ↦ let r = combination_pairs vars of-rest.0 of-rest.1 p later in (member_later v p.var vars r.0, r.1)
      ]

  pub split_pairs : (m : List Pair) → Contains (split cover literals) m → (p : Pair) → Contains m p → (p.var < length cover) × (p.val < last_value cover p.var + 1)
  split_pairs m in' p p-in =
      let r = combination_pairs (filter (is_looked_at cover literals) (range_with_len 0 (length cover))) m in' p p-in in
      (range_member (length cover) p.var (filter_member (is_looked_at cover literals) (range_with_len 0 (length cover)) p.var r.0).0, r.1)
