-- Objects that lists have in common: leaping over lists that rise finds one exactly where there is one.
use Rattle.std.proofs.Common.{◌≡◌, ℕ, ◌+◌, ◌<◌, ◌≤◌, Bool, true, false, not, ◌&&◌, List, [], ◌∷◌, ◌++◌, map, length, take, drop, get_or, inl, inr, Some, None, Ok, Err, refl, sym, ap, ◌∙◌, subst, arith}
use Rattle.std.specs.Prelude.{nat_eq}
use Rattle.std.specs.List.{filter}
use Rattle.std.specs.List.Sorted.{IsNonDecreasing, IsBinarySearchResult}
use Rattle.std.specs.Ordering.{nat_cmp}
use Rattle.std.proofs.lemmas.Bool.{both_ways, eqb-true, eq-eqb, cases_lt, and_parts, and_from, or_cases, or_left, or_right, not-true, not_from_false, false_from_ne_true}
use Rattle.std.proofs.lemmas.List.{get_or_default, map-append, take-append-drop}
use Rattle.std.proofs.lemmas.List.Sorted.{searched}
use Rattle.lists.proofs.Items.{Among, all_both, among_at, contains_among, all_passes, each_passes, any_passes, passing, none_passes, any_append, among_map, map_source, among_filter, filter_among}
use Rattle.lists.proofs.LoopSteps.{map_next}
use Rattle.normal_task.specs.declared.task.Place.{Place}
use Rattle.contradictions.specs.Contradictory.{objects_of, is_lacked, has_no_object, is_among}
use Rattle.contradictions.specs.declared.common.Member.{Member}
use Rattle.contradictions.specs.Common.{objects_in, is_missed, is_shared, IsNextShared, TellsShared}
use Rattle.contradictions.specs.FirstFrom.{IsFirstFrom}

-- ---- one list that rises

-- an object of the list stands at an index
at : (objects : List ℕ) (object : ℕ) → is_among objects object ≡ true → (k : ℕ) × (k < length objects) × (get_or objects k 0 ≡ object)
at objects object is =
    let found = passing (nat_eq object) objects is in
    let place = contains_among objects found.item found.among in
    (place.0, place.1, get_or_default objects place.0 0 found.item place.1 ∙ place.2 ∙ sym (eqb-true object found.item found.passes))

there : (objects : List ℕ) (k object : ℕ) → k < length objects → get_or objects k 0 ≡ object → is_among objects object ≡ true
there objects k object within is = any_passes (nat_eq object) (get_or objects k 0) objects (among_at objects k 0 within) (eq-eqb object (get_or objects k 0) (sym is))

pub found : (objects : List ℕ) (least i : ℕ) → IsBinarySearchResult (λ y. nat_cmp y least) objects (Ok i) → IsNonDecreasing objects → IsFirstFrom objects least (Some least)
found objects least i search rises =
    let place = searched objects least (Ok i) search (λ i j le below. rises i j 0 le below) in
    let same : least ≤ least = omega arith in
    (same, there objects i least place.0 place.1, λ object is more. more)

module _ (objects : List ℕ) (least i : ℕ) (searched-it : IsBinarySearchResult (λ y. nat_cmp y least) objects (Err i)) (rises : IsNonDecreasing objects) where
  parted : (i ≤ length objects) × ((k : ℕ) → k < i → get_or objects k 0 < least) × ((k : ℕ) → i ≤ k → k < length objects → least < get_or objects k 0)
  parted = searched objects least (Err i) searched-it (λ i j le below. rises i j 0 le below)

  pub found_past : i < length objects → IsFirstFrom objects least (Some (get_or objects i 0))
  found_past within =
      let le : i ≤ i = omega arith in
      let above = parted.2 i le within in
      let more : least ≤ get_or objects i 0 = omega (arith, above) in (
        more,
        there objects i (get_or objects i 0) within refl,
        λ object is from.
            let place = at objects object is in
            elim (cases_lt place.0 i) [
              | inl before ↦ let less = parted.1 place.0 before in absurd (omega (arith, less, place.2, from))
              | inr after ↦ let order = rises i place.0 0 after place.1 in omega (arith, order, place.2)
            ],
      )

  pub none_past : length objects ≤ i → IsFirstFrom objects least None
  none_past past object is =
      let place = at objects object is in
      let before : place.0 < i = omega (arith, place.1, past) in
      let less = parted.1 place.0 before in
      omega (arith, less, place.2)

-- ---- one list after the other

module _ (lists : List (List ℕ)) (objects : List ℕ) (least next : ℕ) (held : IsNextShared lists least (Some next)) where
  missed-more : (object : ℕ) → least ≤ object → (next ≤ object → is_among objects object ≡ true → ⊥) → is_missed (lists ++ objects ∷ []) object ≡ true
  missed-more object from isnt =
      any_append (λ objects. not (is_among objects object)) lists (objects ∷ [])
      ∙ elim (cases_lt object next) [
        | inl before ↦ or_left (is_missed lists object) (is_missed (objects ∷ []) object) (held.1 object from before)
        | inr after ↦
            or_right (is_missed lists object) (is_missed (objects ∷ []) object)
            (or_left (not (is_among objects object)) false (not_from_false (is_among objects object) (false_from_ne_true (is_among objects object) (isnt after))))
      ]

  pub shared_more : (later : ℕ) → IsFirstFrom objects next (Some later) → IsNextShared (lists ++ objects ∷ []) least (Some later)
  shared_more later first =
      let least-next = held.0 in
      let next-later = first.0 in
      let order : least ≤ later = omega arith in (
        order,
        λ object from before. missed-more object from (λ after is. let most = first.2 object is after in absurd (omega (arith, most, before))),
        λ same.
            let stays : next ≡ least = omega arith in
            all_both (λ objects. is_among objects least) lists (objects ∷ []) (held.2 stays)
            (and_from (is_among objects least) true (subst (λ n. is_among objects n ≡ true) same first.1) refl),
      )

  pub none_more : IsFirstFrom objects next None → IsNextShared (lists ++ objects ∷ []) least None
  none_more none object from = missed-more object from (λ after is. let before = none object is in absurd (omega (arith, before, after)))

-- more lists only miss more
pub missed_longer : (lists more : List (List ℕ)) (object : ℕ) → is_missed lists object ≡ true → is_missed (lists ++ more) object ≡ true
missed_longer lists more object is =
    any_append (λ objects. not (is_among objects object)) lists more ∙ or_left (is_missed lists object) (is_missed more object) is

-- one turn of the loop over the members
module _ (class : List Member) (i : ℕ) (member : Member) (within : i < length class) (is : member ≡ get_or class i member) (least next : ℕ) (held : IsNextShared (map objects_in (take i class)) least (Some next)) where
  next-lists : map objects_in (take (i + 1) class) ≡ map objects_in (take i class) ++ objects_in member ∷ []
  next-lists = map_next class i member within is objects_in

  pub next_turn : (later : ℕ) → IsFirstFrom (objects_in member) next (Some later) → IsNextShared (map objects_in (take (i + 1) class)) least (Some later)
  next_turn later first =
      subst (λ lists. IsNextShared lists least (Some later)) (sym next-lists) (shared_more (map objects_in (take i class)) (objects_in member) least next held later first)

  pub next_none : IsFirstFrom (objects_in member) next None → IsNextShared (map objects_in class) least None
  next_none none object from =
      subst (λ lists. is_missed lists object ≡ true) (sym (map-append objects_in (take (i + 1) class) (drop (i + 1) class)) ∙ ap (map objects_in) (take-append-drop (i + 1) class))
      (missed_longer (map objects_in (take (i + 1) class)) (map objects_in (drop (i + 1) class)) object
      (subst (λ lists. is_missed lists object ≡ true) (sym next-lists) (none_more (map objects_in (take i class)) (objects_in member) least next held none object from)))

-- ---- a class

module _ (same : Place → Place → Bool) (ranges : List (List ℕ)) (terms : List Place) (term : Place) where
  abbrev class : List (List ℕ)
  class = objects_of ranges term ∷ map (objects_of ranges) (filter (same term) terms)

  -- an object that all share isn't lacked
  shared-not-lacked : (object : ℕ) → is_shared class object ≡ true → is_lacked same ranges terms term object ≡ false
  shared-not-lacked object all =
      none_passes (λ other. same term other && not (is_among (objects_of ranges other) object)) terms
      (λ other in-terms is.
      let parts = and_parts (same term other) (not (is_among (objects_of ranges other) object)) is in
      let has = all_passes (λ objects. is_among objects object) (objects_of ranges other) (map (objects_of ranges) (filter (same term) terms))
      (among_map (objects_of ranges) other (filter (same term) terms) (among_filter (same term) other terms in-terms parts.0))
      (and_parts (is_among (objects_of ranges term) object) (is_shared (map (objects_of ranges) (filter (same term) terms)) object) all).1 in
      both_ways (is_among (objects_of ranges other) object) (not-true (is_among (objects_of ranges other) object) parts.1) has)

  -- one of the term's own objects that is missed is lacked
  missed-lacked : (object : ℕ) → is_among (objects_of ranges term) object ≡ true → is_missed class object ≡ true → is_lacked same ranges terms term object ≡ true
  missed-lacked object own is =
      elim (or_cases (not (is_among (objects_of ranges term) object)) (is_missed (map (objects_of ranges) (filter (same term) terms)) object) is) [
        | inl never ↦ absurd (both_ways (is_among (objects_of ranges term) object) (not-true (is_among (objects_of ranges term) object) never) own)
        | inr later ↦
            let found = passing (λ objects. not (is_among objects object)) (map (objects_of ranges) (filter (same term) terms)) later in
            let source = map_source (objects_of ranges) (filter (same term) terms) found.item found.among in
            let kept = filter_among (same term) source.source terms source.among in
            any_passes (λ other. same term other && not (is_among (objects_of ranges other) object)) source.source terms kept.0
            (and_from (same term source.source) (not (is_among (objects_of ranges source.source) object)) kept.1
            (subst (λ objects. not (is_among objects object) ≡ true) (sym source.gives) found.passes))
      ]

  pub no_object : (answer : Bool) → TellsShared class answer → not answer ≡ has_no_object same ranges terms term
  no_object true shares =
      let own = (and_parts (is_among (objects_of ranges term) shares.0) (is_shared (map (objects_of ranges) (filter (same term) terms)) shares.0) shares.1).0 in
      let found = passing (nat_eq shares.0) (objects_of ranges term) own in
      by (has_no_object same ranges terms term) refl found.item found.among (eqb-true shares.0 found.item found.passes)
    where
      by : (b : Bool) → has_no_object same ranges terms term ≡ b → (item : ℕ) → Among item (objects_of ranges term) → shares.0 ≡ item → false ≡ b
      by false is item among same-item = refl
      by true is item among same-item =
          let lacked = all_passes (is_lacked same ranges terms term) item (objects_of ranges term) among is in
          absurd (both_ways (is_lacked same ranges terms term item) (subst (λ o. is_lacked same ranges terms term o ≡ false) same-item (shared-not-lacked shares.0 shares.1)) lacked)
  no_object false missed =
      sym (each_passes (is_lacked same ranges terms term) (objects_of ranges term) (λ object among.
      missed-lacked object (any_passes (nat_eq object) object (objects_of ranges term) among (eq-eqb object object refl)) (missed object)))
