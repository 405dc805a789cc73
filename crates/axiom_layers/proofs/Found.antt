-- The arcs of a lawful reached task, and the layers that are found by them.
use Rattle.std.proofs.Common.{◌≡◌, ℕ, ◌+◌, ◌<◌, ◌≤◌, true, ◌⊎◌, inl, inr, List, map, length, get_or, sym, ap, ◌∙◌, subst, arith}
use Rattle.std.specs.Prelude.{filter}
use Rattle.std.specs.List.{All, Contains}
use Rattle.std.proofs.lemmas.Bool.{true≢false}
use Rattle.std.proofs.lemmas.List.Elements.{All-contains}
use Rattle.lists.proofs.Items.{Among, among_contains, contains_among, among_map, map_source, among_filter, filter_among, among_left, among_right, among_which, among_flat_map, flat_map_piece}
use Rattle.reached_task.specs.declared.types.Reached.{Reached}
use Rattle.reached_task.specs.declared.types.ReachedAxiom.{ReachedAxiom}
use Rattle.reached_task.specs.ReachedTask.{is_derived, axiom_row}
use Rattle.reached_task.specs.Lawful.{IsLawful, IsLawfulAxiom}
use Rattle.reached_task.specs.Layers.{Names, RestsOn, AreLayers}
use Rattle.reached_task.proofs.OneLayers.{derived_below}
use Rattle.names.specs.declared.arcs.Arc.{Arc}
use Rattle.axiom_layers.specs.Arcs.{arc_to, arcs_at, arcs_of, AreSound, IsAbove, AreHeld}

-- ---- an arc and its axiom

-- the axiom and the literal that an arc comes from
record Origin (reached : Reached) (arc : Arc) : Type 0 where
  row : ReachedAxiom
  of_task : Among row reached.axioms
  for_fact : row.fact ≡ arc.to
  literal : Among arc.from row.condition.positive ⊎ Among arc.from row.condition.negative
  derived : is_derived reached.facts arc.from ≡ true

origin : (reached : Reached) (arc : Arc) → Contains (arcs_of reached) arc → Origin reached arc
origin reached arc in' =
    let piece = flat_map_piece (arcs_at reached.facts) reached.axioms arc (among_contains (arcs_of reached) arc in') in
    by_half piece.source piece.among (among_which arc (arcs piece.source piece.source.condition.positive) (arcs piece.source piece.source.condition.negative) piece.inside)
  where
    arcs : ReachedAxiom → List ℕ → List Arc
    arcs row literals = map (arc_to row.fact) (filter (is_derived reached.facts) literals)

    by_half : (row : ReachedAxiom) → Among row reached.axioms → Among arc (arcs row row.condition.positive) ⊎ Among arc (arcs row row.condition.negative) → Origin reached arc
    by_half row among (inl positive) =
        let from = map_source (arc_to row.fact) (filter (is_derived reached.facts) row.condition.positive) arc positive in
        let found = filter_among (is_derived reached.facts) from.source row.condition.positive from.among in
        record {
          row = row;
          of_task = among;
          for_fact = ap (λ (a : Arc). a.to) from.gives;
          literal = inl (subst (λ (a : Arc). Among a.from row.condition.positive) from.gives found.0);
          derived = subst (λ (a : Arc). is_derived reached.facts a.from ≡ true) from.gives found.1;
        }
    by_half row among (inr negative) =
        let from = map_source (arc_to row.fact) (filter (is_derived reached.facts) row.condition.negative) arc negative in
        let found = filter_among (is_derived reached.facts) from.source row.condition.negative from.among in
        record {
          row = row;
          of_task = among;
          for_fact = ap (λ (a : Arc). a.to) from.gives;
          literal = inr (subst (λ (a : Arc). Among a.from row.condition.negative) from.gives found.0);
          derived = subst (λ (a : Arc). is_derived reached.facts a.from ≡ true) from.gives found.1;
        }

-- a fact that rests on another has an arc to it
arc_in : (reached : Reached) (fact low : ℕ) → RestsOn reached fact low → Contains (arcs_of reached) (arc_to fact low)
arc_in reached fact low rests =
    let row = rests.axiom' in
    subst (λ (f : ℕ). Contains (arcs_of reached) (arc_to f low)) rests.for_fact
    (contains_among (arcs_of reached) (arc_to row.fact low)
    (among_flat_map (arcs_at reached.facts) row (arc_to row.fact low) reached.axioms (among_contains reached.axioms row rests.of_task) (by_sign rests.named)))
  where
    arcs : ReachedAxiom → List ℕ → List Arc
    arcs row literals = map (arc_to row.fact) (filter (is_derived reached.facts) literals)

    one : (row : ReachedAxiom) (literals : List ℕ) → Contains literals low → Among (arc_to row.fact low) (arcs row literals)
    one row literals in' = among_map (arc_to row.fact) low (filter (is_derived reached.facts) literals) (among_filter (is_derived reached.facts) low literals (among_contains literals low in') rests.derived)

    by_sign : Names rests.axiom'.condition low → Among (arc_to rests.axiom'.fact low) (arcs_at reached.facts rests.axiom')
    by_sign (inl positive) = among_left (arc_to rests.axiom'.fact low) (arcs rests.axiom' rests.axiom'.condition.positive) (arcs rests.axiom' rests.axiom'.condition.negative) (one rests.axiom' rests.axiom'.condition.positive positive)
    by_sign (inr negative) = among_right (arc_to rests.axiom'.fact low) (arcs rests.axiom' rests.axiom'.condition.positive) (arcs rests.axiom' rests.axiom'.condition.negative) (one rests.axiom' rests.axiom'.condition.negative negative)

-- ---- a lawful task

module _ (reached : Reached) (lawful : IsLawful reached) where
  head_derived : (row : ReachedAxiom) → Among row reached.axioms → is_derived reached.facts row.fact ≡ true
  head_derived row among = (All-contains (IsLawfulAxiom reached) reached.axioms row lawful.axioms (contains_among reached.axioms row among)).derived

  arc_derived : (arc : Arc) → Origin reached arc → is_derived reached.facts arc.to ≡ true
  arc_derived arc from = subst (λ (f : ℕ). is_derived reached.facts f ≡ true) from.for_fact (head_derived from.row from.of_task)

  pub sound : AreSound (length reached.facts) (arcs_of reached)
  sound = record {
    within = λ arc in'. let from = origin reached arc in' in (derived_below reached.facts arc.to (arc_derived arc from), derived_below reached.facts arc.from from.derived);
    rank = lawful.ranked.rank;
    falls = λ arc in'.
        let from = origin reached arc in' in
        subst (λ (f : ℕ). lawful.ranked.rank arc.from < lawful.ranked.rank f) from.for_fact (by_sign arc from from.literal);
  }
    where
      by_sign : (arc : Arc) (from : Origin reached arc) → Among arc.from from.row.condition.positive ⊎ Among arc.from from.row.condition.negative → lawful.ranked.rank arc.from < lawful.ranked.rank from.row.fact
      by_sign arc from (inl positive) =
          lawful.ranked.positive (axiom_row from.row) (contains_among (map axiom_row reached.axioms) (axiom_row from.row) (among_map axiom_row from.row reached.axioms from.of_task))
          arc.from (contains_among from.row.condition.positive arc.from positive) from.derived
      by_sign arc from (inr negative) =
          lawful.ranked.negative (axiom_row from.row) (contains_among (map axiom_row reached.axioms) (axiom_row from.row) (among_map axiom_row from.row reached.axioms from.of_task))
          arc.from (contains_among from.row.condition.negative arc.from negative) from.derived

  pub are_layers : (layers : List ℕ) → length layers ≡ length reached.facts → AreHeld (arcs_of reached) layers → All (IsAbove layers) (arcs_of reached) → AreLayers reached layers
  are_layers layers count held above = record {
    count = count;
    basic = λ fact within basic. elim (held fact within) [
      | inl none ↦ none
      | inr some ↦ absurd (true≢false (sym (subst (λ (f : ℕ). is_derived reached.facts f ≡ true) some.2 (arc_derived some.0 (origin reached some.0 some.1))) ∙ basic))
    ];
    above = λ fact low within rests. All-contains (IsAbove layers) (arcs_of reached) (arc_to fact low) above (arc_in reached fact low rests);
    least = λ fact within. elim (held fact within) [
      | inl none ↦ inl none
      | inr some ↦ inr (some.0.from, rests fact some.0 some.2 (origin reached some.0 some.1), exact fact some.0 some.2 some.3 (All-contains (IsAbove layers) (arcs_of reached) some.0 above some.1))
    ];
  }
    where
      names : (arc : Arc) (from : Origin reached arc) → Among arc.from from.row.condition.positive ⊎ Among arc.from from.row.condition.negative → Names from.row.condition arc.from
      names arc from (inl positive) = inl (contains_among from.row.condition.positive arc.from positive)
      names arc from (inr negative) = inr (contains_among from.row.condition.negative arc.from negative)

      rests : (fact : ℕ) (arc : Arc) → arc.to ≡ fact → Origin reached arc → RestsOn reached fact arc.from
      rests fact arc for from = record {
        axiom' = from.row;
        of_task = contains_among reached.axioms from.row from.of_task;
        for_fact = from.for_fact ∙ for;
        named = names arc from from.literal;
        derived = from.derived;
      }

      exact : (fact : ℕ) (arc : Arc) → arc.to ≡ fact → get_or layers fact 0 ≤ get_or layers arc.from 0 + 1 → get_or layers arc.from 0 < get_or layers arc.to 0 → get_or layers fact 0 ≡ get_or layers arc.from 0 + 1
      exact fact arc for most least =
          let same : get_or layers arc.to 0 ≡ get_or layers fact 0 = ap (λ (f : ℕ). get_or layers f 0) for in
          omega arith
