-- Layers that are lifted along arcs: none is higher than it must be, and each is below the number of facts.
use Rattle.std.proofs.Common.{◌≡◌, ◌≢◌, ℕ, zero, suc, ◌+◌, ◌-◌, ◌*◌, ◌<◌, ◌≤◌, Bool, true, false, nat_le, cond, ◌⊎◌, inl, inr, List, [], length, get_or, set, sum, refl, sym, ap, ◌∙◌, subst, arith, get_or-set_same, get_or-set_other, length-set}
use Rattle.std.specs.List.{Contains}
use Rattle.std.proofs.lemmas.Bool.{cases_lt, true≢false, leb-true, le-leb, cases_eq}
use Rattle.std.proofs.lemmas.List.Elements.{All-from_get_or}
use Rattle.std.proofs.lemmas.List.Sums.{sum_by-le, sum_by-set}
use Rattle.lists.proofs.Items.{Among, among_at}
use Rattle.reached_task.proofs.LongLists.{as_long}
use Rattle.names.specs.declared.arcs.Arc.{Arc}
use Rattle.axiom_layers.specs.Arcs.{AreSound, IsAbove, AreHeld, lifted}

-- ---- how high a layer can be

module _ (arcs : List Arc) (layers : List ℕ) (sound : AreSound (length layers) arcs) (held : AreHeld arcs layers) where
  -- below each layer there is each smaller one
  each_smaller : (bound fact : ℕ) → sound.rank fact < bound → fact < length layers → (n : ℕ) → n < suc (get_or layers fact 0) → Among n layers
  each_smaller zero fact ranked within n at_most = absurd (omega arith)
  each_smaller (suc bound) fact ranked within n at_most = elim (cases_lt n (get_or layers fact 0)) [
    | inr not ↦ let is : get_or layers fact 0 ≡ n = omega arith in subst (λ m. Among m layers) is (among_at layers fact 0 within)
    | inl smaller ↦ elim (held fact within) [
      | inl none ↦ absurd (omega arith)
      | inr some ↦
          let falls = sound.falls some.0 some.1 in
          let same : sound.rank some.0.to ≡ sound.rank fact = ap sound.rank some.2 in
          let low = (sound.within some.0 some.1).1 in
          let at = some.3 in
          each_smaller bound some.0.from (omega arith) low n (omega arith)
    ]
  ]

  pub below_count : (fact : ℕ) → fact < length layers → get_or layers fact 0 < length layers
  below_count fact within =
      let long = as_long (suc (get_or layers fact 0)) layers (each_smaller (suc (sound.rank fact)) fact (omega arith) within) in
      omega arith

  pub low_sum : sum layers ≤ length layers * length layers
  low_sum = sum_by-le (λ (x : ℕ). x) (length layers) layers (All-from_get_or (λ (x : ℕ). x ≤ length layers) layers 0 (λ i within. let below = below_count i within in omega arith))

-- ---- one fact lifted

module _ (arcs : List Arc) (layers : List ℕ) (arc : Arc) (within : arc.to < length layers) (low : get_or layers arc.to 0 ≤ get_or layers arc.from 0) where
  abbrev above : ℕ
  above = get_or layers arc.from 0 + 1

  abbrev now : List ℕ
  now = set layers arc.to above

  grows : (fact : ℕ) → get_or layers fact 0 ≤ get_or now fact 0
  grows fact = elim (cases_eq fact arc.to) [
    | inl same ↦
        let new : get_or now fact 0 ≡ above = subst (λ (f : ℕ). get_or now f 0 ≡ above) (sym same) (get_or-set_same layers arc.to above 0 within) in
        let old : get_or layers fact 0 ≡ get_or layers arc.to 0 = ap (λ (f : ℕ). get_or layers f 0) same in
        omega arith
    | inr other ↦ let new = get_or-set_other layers arc.to fact above 0 other in omega arith
  ]

  held_now : Contains arcs arc → AreHeld arcs layers → AreHeld arcs now
  held_now in' held fact within_now = elim (cases_eq fact arc.to) [
    | inl same ↦
        let new : get_or now fact 0 ≡ above = subst (λ (f : ℕ). get_or now f 0 ≡ above) (sym same) (get_or-set_same layers arc.to above 0 within) in
        let more = grows arc.from in
        inr (arc, in', sym same, omega arith)
    | inr other ↦
        let new : get_or now fact 0 ≡ get_or layers fact 0 = get_or-set_other layers arc.to fact above 0 other in
        by new (held fact (subst (λ n. fact < n) (length-set layers arc.to above) within_now))
  ]
    where
      by : get_or now fact 0 ≡ get_or layers fact 0 → (get_or layers fact 0 ≡ 0) ⊎ ((a : Arc) × Contains arcs a × (a.to ≡ fact) × (get_or layers fact 0 ≤ get_or layers a.from 0 + 1)) →
          (get_or now fact 0 ≡ 0) ⊎ ((a : Arc) × Contains arcs a × (a.to ≡ fact) × (get_or now fact 0 ≤ get_or now a.from 0 + 1))
      by new (inl none) = inl (new ∙ none)
      by new (inr some) = let at = some.3 in let more = grows some.0.from in inr (some.0, some.1, some.2, omega arith)

  sum_now : sum layers < sum now
  sum_now = let change = sum_by-set (λ (x : ℕ). x) layers arc.to above 0 within in omega arith

pub held_lifted : (arcs : List Arc) (layers : List ℕ) (arc : Arc) → arc.to < length layers → Contains arcs arc → AreHeld arcs layers → AreHeld arcs (lifted layers arc)
held_lifted arcs layers arc within in' held = by (nat_le (get_or layers arc.to 0) (get_or layers arc.from 0)) refl
  where
    by : (lifts : Bool) → nat_le (get_or layers arc.to 0) (get_or layers arc.from 0) ≡ lifts → AreHeld arcs (cond lifts (set layers arc.to (get_or layers arc.from 0 + 1)) layers)
    by true e = held_now arcs layers arc within (leb-true (get_or layers arc.to 0) (get_or layers arc.from 0) e) in' held
    by false e = held

pub sum_lifted : (layers : List ℕ) (arc : Arc) → arc.to < length layers → nat_le (get_or layers arc.to 0) (get_or layers arc.from 0) ≡ true → sum layers < sum (lifted layers arc)
sum_lifted layers arc within lifts =
    subst (λ (l : List ℕ). sum layers < sum l) (sym (ap (λ b. cond b (set layers arc.to (get_or layers arc.from 0 + 1)) layers) lifts))
    (sum_now [] layers arc within (leb-true (get_or layers arc.to 0) (get_or layers arc.from 0) lifts))

pub lifted_stays : (layers : List ℕ) (arc : Arc) → nat_le (get_or layers arc.to 0) (get_or layers arc.from 0) ≡ false → lifted layers arc ≡ layers
lifted_stays layers arc stays = ap (λ b. cond b (set layers arc.to (get_or layers arc.from 0 + 1)) layers) stays

-- ---- an arc of a sound list

module _ (count : ℕ) (arcs : List Arc) (layers : List ℕ) (same : length layers ≡ count) (sound : AreSound count arcs) (arc : Arc) (in' : Contains arcs arc) where
  pub fact_within : arc.to < length layers
  fact_within = subst (λ n. arc.to < n) (sym same) (sound.within arc in').0

  pub low_within : arc.from < length layers
  low_within = subst (λ n. arc.from < n) (sym same) (sound.within arc in').1

  pub low_small : AreHeld arcs layers → get_or layers arc.from 0 < count
  low_small held = subst (λ n. get_or layers arc.from 0 < n) same (below_count arcs layers (subst (λ n. AreSound n arcs) (sym same) sound) held arc.from low_within)

-- an arc that needs no lift
pub above_if : (layers : List ℕ) (arc : Arc) → nat_le (get_or layers arc.to 0) (get_or layers arc.from 0) ≡ false → IsAbove layers arc
above_if layers arc stays = elim (cases_lt (get_or layers arc.from 0) (get_or layers arc.to 0)) [
  | inl above ↦ above
  | inr not ↦ absurd (true≢false (sym (le-leb (get_or layers arc.to 0) (get_or layers arc.from 0) not) ∙ stays))
]

-- what is left to lift falls
pub less_left : (old now : List ℕ) → length old ≡ length now → sum now ≤ length now * length now → sum old < sum now → length now * length now - sum now < length old * length old - sum old
less_left old now same most more =
    let square : length old * length old ≡ length now * length now = ap (λ (n : ℕ). n * n) same in
    omega arith
