-- Literals that contradict each other have no way to satisfy them.
use Rattle.std.proofs.Common.{◌≡◌, ℕ, ◌+◌, ◌<◌, Bool, true, false, cond, ◌&&◌, ◌||◌, not, eqb, inl, inr, List, [], ◌∷◌, ◌++◌, Option, Some, None, map, length, refl, sym, ap, ◌∙◌, subst}
use Rattle.std.specs.List.{Contains, filter, filter_map, flat_map, list_any, list_all, range_with_len}
use Rattle.std.specs.Option.{option_map_or}
use Rattle.std.specs.Cmp.{both_ways as same_tests}
use Rattle.std.proofs.lemmas.Bool.{and_from, and_parts, or_cases, or_left, or_right, eqb-true, eq-eqb, false≢true, false_from_ne_true}
use Rattle.std.proofs.lemmas.List.Elements.{Contains-append_cases, Contains-append_left, Contains-append_right}
use Rattle.lists.proofs.Members.{no_member, member_first, member_later, member_cases, member_single, member_filter, filter_member, member_range, any_member, member_any, all_pass, each_passes, filter_none, flat_map_member}
use Rattle.sas_task.specs.declared.parts.Pair.{Pair}
use Rattle.ground_task.specs.declared.types.Cond.{Cond}
use Rattle.fdr_effects.specs.declared.literals.Literal.{Literal}
use Rattle.fdr_effects.specs.Effects.{both, is_true, is_false}
use Rattle.sas_task.specs.Pairs.{pair}
use Rattle.fdr_effects.specs.Places.{Cover, places, first_place, stands_in, last_value}
use Rattle.fdr_effects.specs.Split.{split, combinations, values_left, is_left, is_looked_at}
use Rattle.fdr_effects.specs.Standing.{AreWithin, Over, alone, asks, leaves_out, rules_out, is_at, is_beside}
use Rattle.fdr_effects.proofs.Grouped.{filter_map_member}
use Rattle.fdr_effects.proofs.Placed.{place_is, place_stands}

-- where one variable has no value, there is no combination
none_combined : (values : ℕ → List ℕ) (vars : List ℕ) (var : ℕ) → Contains vars var → values var ≡ [] → combinations values vars ≡ []
none_combined values [] var in' empty = absurd (no_member var in')
none_combined values (first ∷ vars) var in' empty = elim (member_cases first var vars in') [
  | inl here ↦ ap (flat_map (λ val. map (λ rest. pair first val ∷ rest) (combinations values vars))) (subst (λ (v : ℕ). values v ≡ []) (sym here) empty)
  | inr later ↦
      ap (λ l. flat_map (λ val. map (λ rest. pair first val ∷ rest) l) (values first)) (none_combined values vars var later empty) ∙ nothing (values first)
]
  where
    nothing : (vals : List ℕ) → flat_map (λ val. map (λ rest. pair first val ∷ rest) []) vals ≡ []
    nothing [] = refl
    nothing (val ∷ vals) = nothing vals

-- and where there is no combination, one variable has no value
no_value : (values : ℕ → List ℕ) (vars : List ℕ) → combinations values vars ≡ [] → (var : ℕ) × Contains vars var × (values var ≡ [])
no_value values [] none = absurd cc
no_value values (var ∷ vars) none = by_case (values var) refl (combinations values vars) refl none (no_value values vars)
  where
    by_case : (vals : List ℕ) → values var ≡ vals → (ms : List (List Pair)) → combinations values vars ≡ ms → flat_map (λ val. map (λ rest. pair var val ∷ rest) ms) vals ≡ [] → (combinations values vars ≡ [] → (v : ℕ) × Contains vars v × (values v ≡ [])) → (v : ℕ) × Contains (var ∷ vars) v × (values v ≡ [])
    by_case [] is ms made empty more = (var, member_first var vars, is)
    by_case (val ∷ vals) is [] made empty more = let found = more made in (found.0, member_later var found.0 vars found.1, found.2)
    by_case (val ∷ vals) is (m ∷ ms) made empty more = absurd cc

-- ---- the literals of one list among those of another

pub within_itself : (all : Cond ℕ) → AreWithin all all
within_itself all = record { positive = λ f in'. in'; negative = λ f in'. in' }

pub within_more : (a b c : Cond ℕ) → AreWithin a b → AreWithin b c → AreWithin a c
within_more a b c ab bc = record { positive = λ f in'. bc.positive f (ab.positive f in'); negative = λ f in'. bc.negative f (ab.negative f in') }

pub within_front : (a b : Cond ℕ) → AreWithin a (both a b)
within_front a b = record { positive = λ f in'. Contains-append_left a.positive b.positive f in'; negative = λ f in'. Contains-append_left a.negative b.negative f in' }

pub within_back : (a b : Cond ℕ) → AreWithin b (both a b)
within_back a b = record { positive = λ f in'. Contains-append_right a.positive b.positive f in'; negative = λ f in'. Contains-append_right a.negative b.negative f in' }

pub within_joined : (a b all : Cond ℕ) → AreWithin a all → AreWithin b all → AreWithin (both a b) all
within_joined a b all front back = record { positive = λ f in'. joined a.positive b.positive all.positive front.positive back.positive f in'; negative = λ f in'. joined a.negative b.negative all.negative front.negative back.negative f in' }
  where
    joined : (fs gs hs : List ℕ) → ((f : ℕ) → Contains fs f → Contains hs f) → ((f : ℕ) → Contains gs f → Contains hs f) → (f : ℕ) → Contains (fs ++ gs) f → Contains hs f
    joined fs gs hs front back f in' = elim (Contains-append_cases fs gs f in') [ inl a ↦ front f a | inr b ↦ back f b ]

pub within_fact : (all : Cond ℕ) (fact : ℕ) → Contains all.positive fact → AreWithin (is_true fact) all
within_fact all fact in' = record { positive = λ f is. subst (Contains all.positive) (member_single fact f is) in'; negative = λ f none. absurd (no_member f none) }

module _ (cover : Cover) (all : Cond ℕ) where
  -- a variable that is looked at and keeps no value
  stuck : (var : ℕ) → var < length cover → is_looked_at cover all var ≡ true → ((val : ℕ) → is_left cover all var val ≡ false) → split cover all ≡ []
  stuck var below looked none =
      none_combined (values_left cover all) (filter (is_looked_at cover all) (range_with_len 0 (length cover))) var
      (member_filter (is_looked_at cover all) (range_with_len 0 (length cover)) var (member_range (length cover) var below) looked)
      (filter_none (is_left cover all var) (range_with_len 0 (last_value cover var + 1)) (λ val in'. none val))

  -- a value that is left to a variable is that of each place that is asked for, and of none that is barred
  asked_is : (f : ℕ) (p : Pair) → Contains all.positive f → Contains (places cover f) p → (val : ℕ) → is_left cover all p.var val ≡ true → p.val ≡ val
  asked_is f p asked listed val left =
      let parts = and_parts (list_all (λ g. list_all (λ q. not (eqb q.var p.var) || eqb q.val val) (places cover g)) all.positive)
      (list_all (λ g. option_map_or (λ q. not (eqb q.var p.var && eqb q.val val)) (first_place cover g) true) all.negative) left in
      let on_place = all_pass (λ q. not (eqb q.var p.var) || eqb q.val val) (places cover f) p
      (all_pass (λ g. list_all (λ q. not (eqb q.var p.var) || eqb q.val val) (places cover g)) all.positive f parts.0 asked) listed in
      eqb-true p.val val (ap (λ b. not b || eqb p.val val) (sym (eq-eqb p.var p.var refl)) ∙ on_place)

  barred_isnt : (g : ℕ) (q : Pair) → Contains all.negative g → first_place cover g ≡ Some q → (val : ℕ) → is_left cover all q.var val ≡ true → q.val ≡ val → ⊥
  barred_isnt g q barred first val left same =
      let parts = and_parts (list_all (λ f. list_all (λ p. not (eqb p.var q.var) || eqb p.val val) (places cover f)) all.positive)
      (list_all (λ f. option_map_or (λ p. not (eqb p.var q.var && eqb p.val val)) (first_place cover f) true) all.negative) left in
      let off = all_pass (λ f. option_map_or (λ p. not (eqb p.var q.var && eqb p.val val)) (first_place cover f) true) all.negative g parts.1 barred in
      let apart = ap (λ b. not (b && eqb q.val val)) (sym (eq-eqb q.var q.var refl)) ∙ ap (λ o. option_map_or (λ p. not (eqb p.var q.var && eqb p.val val)) o true) (sym first) ∙ off in
      false≢true (ap not (sym (eq-eqb q.val val same)) ∙ apart)

  looked_at : (f : ℕ) (p : Pair) → Contains all.positive f → Contains (places cover f) p → is_looked_at cover all p.var ≡ true
  looked_at f p asked listed =
      or_left (list_any (λ g. stands_in cover g p.var) all.positive) (list_any (λ g. option_map_or (λ q. eqb q.var p.var) (first_place cover g) false) all.negative)
      (member_any (λ g. stands_in cover g p.var) all.positive f asked (place_stands cover f p listed))

  -- two values are asked for
  two_asked : (f g : ℕ) (p q : Pair) → Contains all.positive f → Contains (places cover f) p → Contains all.positive g → Contains (places cover g) q → q.var ≡ p.var → (q.val ≡ p.val → ⊥) → split cover all ≡ []
  two_asked f g p q asked listed asked' listed' same apart =
      stuck p.var (place_is cover f p listed).below (looked_at f p asked listed) (λ val. false_from_ne_true (is_left cover all p.var val) (λ left.
      apart (asked_is g q asked' listed' val (subst (λ v. is_left cover all v val ≡ true) (sym same) left) ∙ sym (asked_is f p asked listed val left))))

  -- the value that is asked for is barred
  asked_and_barred : (f g : ℕ) (p q : Pair) → Contains all.positive f → Contains (places cover f) p → Contains all.negative g → first_place cover g ≡ Some q → q.var ≡ p.var → q.val ≡ p.val → split cover all ≡ []
  asked_and_barred f g p q asked listed barred first same value =
      stuck p.var (place_is cover f p listed).below (looked_at f p asked listed) (λ val. false_from_ne_true (is_left cover all p.var val) (λ left.
      barred_isnt g q barred first val (subst (λ v. is_left cover all v val ≡ true) (sym same) left) (value ∙ asked_is f p asked listed val left)))

-- literals among which are some, and one that these rule out
module _ (cover : Cover) (few all : Cond ℕ) (within : AreWithin few all) (one : Literal) where
  abbrev over : Over
  over = record { cover = cover; literals = few }

  as_true : Contains all.positive one.fact → (p : Pair) → Contains (places cover one.fact) p → leaves_out over p ≡ true → split cover all ≡ []
  as_true asked p listed left = elim (or_cases (list_any (is_beside p) (flat_map (places cover) few.positive)) (list_any (is_at p) (filter_map (first_place cover) few.negative)) left) [
    | inl other ↦
        let q = any_member (is_beside p) (flat_map (places cover) few.positive) other in
        let g = flat_map_member (places cover) few.positive q.0 q.1 in
        let at = and_parts (eqb q.0.var p.var) (not (eqb q.0.val p.val)) q.2 in
        two_asked cover all one.fact g.0 p q.0 asked listed (within.positive g.0 g.1) g.2 (eqb-true q.0.var p.var at.0) (λ same. false≢true (ap not (sym (eq-eqb q.0.val p.val same)) ∙ at.1))
    | inr here ↦
        let q = any_member (is_at p) (filter_map (first_place cover) few.negative) here in
        let g = filter_map_member (first_place cover) few.negative q.0 q.1 in
        let at = and_parts (eqb q.0.var p.var) (eqb q.0.val p.val) q.2 in
        asked_and_barred cover all one.fact g.0 p q.0 asked listed (within.negative g.0 g.1) g.2 (eqb-true q.0.var p.var at.0) (eqb-true q.0.val p.val at.1)
  ]

  as_false : Contains all.negative one.fact → (o : Option Pair) → first_place cover one.fact ≡ o → option_map_or (asks over) o false ≡ true → split cover all ≡ []
  as_false barred None first out = absurd (false≢true out)
  as_false barred (Some p) first out =
      let q = any_member (is_at p) (flat_map (places cover) few.positive) out in
      let g = flat_map_member (places cover) few.positive q.0 q.1 in
      let at = and_parts (eqb q.0.var p.var) (eqb q.0.val p.val) q.2 in
      asked_and_barred cover all g.0 one.fact q.0 p (within.positive g.0 g.1) g.2 barred first (sym (eqb-true q.0.var p.var at.0)) (sym (eqb-true q.0.val p.val at.1))

  by_truth : (b : Bool) → AreWithin (cond b (is_true one.fact) (is_false one.fact)) all → cond b (list_any (leaves_out over) (places cover one.fact)) (option_map_or (asks over) (first_place cover one.fact) false) ≡ true → split cover all ≡ []
  by_truth true also out = let p = any_member (leaves_out over) (places cover one.fact) out in as_true (also.positive one.fact (member_first one.fact [])) p.0 p.1 p.2
  by_truth false also out = as_false (also.negative one.fact (member_first one.fact [])) (first_place cover one.fact) refl out

  pub ruled_out : AreWithin (alone one) all → rules_out over one ≡ true → split cover all ≡ []
  ruled_out also out = by_truth one.truth also out

module _ (cover : Cover) (few all : Cond ℕ) (within : AreWithin few all) where
  still_looked_at : (var : ℕ) → is_looked_at cover few var ≡ true → is_looked_at cover all var ≡ true
  still_looked_at var is =
      let stands = λ (f : ℕ). stands_in cover f var in
      let first = λ (f : ℕ). option_map_or (λ (p : Pair). eqb p.var var) (first_place cover f) false in
      elim (or_cases (list_any stands few.positive) (list_any first few.negative) is) [
        | inl asked ↦ let f = any_member stands few.positive asked in or_left (list_any stands all.positive) (list_any first all.negative) (member_any stands all.positive f.0 (within.positive f.0 f.1) f.2)
        | inr barred ↦ let f = any_member first few.negative barred in or_right (list_any stands all.positive) (list_any first all.negative) (member_any first all.negative f.0 (within.negative f.0 f.1) f.2)
      ]

  was_left : (var val : ℕ) → is_left cover all var val ≡ true → is_left cover few var val ≡ true
  was_left var val left =
      let keeps = λ (f : ℕ). list_all (λ (p : Pair). not (eqb p.var var) || eqb p.val val) (places cover f) in
      let spares = λ (f : ℕ). option_map_or (λ (p : Pair). not (eqb p.var var && eqb p.val val)) (first_place cover f) true in
      let parts = and_parts (list_all keeps all.positive) (list_all spares all.negative) left in
      and_from (list_all keeps few.positive) (list_all spares few.negative)
      (each_passes keeps few.positive (λ f in'. all_pass keeps all.positive f parts.0 (within.positive f in')))
      (each_passes spares few.negative (λ f in'. all_pass spares all.negative f parts.1 (within.negative f in')))

  -- what has no way to be satisfied has none with more literals
  pub none_with_more : split cover few ≡ [] → split cover all ≡ []
  none_with_more none =
      let found = no_value (values_left cover few) (filter (is_looked_at cover few) (range_with_len 0 (length cover))) none in
      let var = found.0 in
      let at = filter_member (is_looked_at cover few) (range_with_len 0 (length cover)) var found.1 in
      none_combined (values_left cover all) (filter (is_looked_at cover all) (range_with_len 0 (length cover))) var
      (member_filter (is_looked_at cover all) (range_with_len 0 (length cover)) var at.0 (still_looked_at var at.1))
      (filter_none (is_left cover all var) (range_with_len 0 (last_value cover var + 1)) (λ val in'. false_from_ne_true (is_left cover all var val) (λ left.
      no_member val (subst (λ (l : List ℕ). Contains l val) found.2 (member_filter (is_left cover few var) (range_with_len 0 (last_value cover var + 1)) val in' (was_left var val left))))))

-- the same literals have the same ways
pub same_split : (cover : Cover) (a b : Cond ℕ) → AreWithin a b → AreWithin b a → split cover a ≡ split cover b
same_split cover a b ab ba =
    ap (λ (values : ℕ → List ℕ). combinations values (filter (is_looked_at cover a) (range_with_len 0 (length cover))))
    (λ i var. filter (λ val. left var val i) (range_with_len 0 (last_value cover var + 1)))
    ∙ ap (λ (test : ℕ → Bool). combinations (values_left cover b) (filter test (range_with_len 0 (length cover)))) (λ i var. looked var i)
  where
    left : (var val : ℕ) → is_left cover a var val ≡ is_left cover b var val
    left var val = same_tests (is_left cover a var val) (is_left cover b var val) (was_left cover b a ba var val) (was_left cover a b ab var val)

    looked : (var : ℕ) → is_looked_at cover a var ≡ is_looked_at cover b var
    looked var = same_tests (is_looked_at cover a var) (is_looked_at cover b var) (still_looked_at cover a b ab var) (still_looked_at cover b a ba var)
