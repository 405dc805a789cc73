-- Parts whose parameters are named anew, by the places of the first part.
use Rattle.std.proofs.Common.{◌≡◌, ℕ, ◌<◌, true, inl, inr, List, map, length, get_or, refl, sym, ap, ◌∙◌, subst, arith}
use Rattle.std.specs.Prelude.{nat_eq}
use Rattle.std.specs.Cmp.{nat_eq_equiv}
use Rattle.std.specs.List.{list_any, range_with_len, position_or_len}
use Rattle.std.specs.Option.{option_to_list}
use Rattle.std.proofs.lemmas.Bool.{eqb-true}
use Rattle.std.proofs.lemmas.List.{length-append, length-map}
use Rattle.lists.proofs.Items.{Among, among_at, map_source, among_which, among_left, among_right, filter_among, among_filter, any_passes, same_map, map_itself}
use Rattle.lists.proofs.NoRepeats.{Once, once_append, once_filter, once_map, once_front, once_behind, once_apart, range_among, once_range, no_longer, same_place, position_once, found, same_at_each, same_image}
use Rattle.normal_task.specs.declared.task.Normal.{Normal}
use Rattle.normal_task.specs.Lawful.{is_rising}
use Rattle.contradictions.specs.declared.types.Part.{Part}
use Rattle.invariant_check.specs.Extensions.{arity_of, renamed, rising_places}
use Rattle.normal_task.proofs.RisingLists.{among_if, rising_filter, rising_range}
use Rattle.invariant_check.proofs.FormedParts.{IsPartFor}

-- where the first part's places are, in rising order
module _ (task : Normal) (parameters : ℕ) (first : Part) (is : IsPartFor task parameters first) where
  abbrev rising : List ℕ
  rising = rising_places task first

  pub first_once : Once first.places
  first_once = once_front first.places (option_to_list first.counted) is.once

  pub of_first : (place : ℕ) → Among place rising → Among place first.places
  of_first place there =
      among_if nat_eq (λ x y same. eqb-true x y same) first.places place (filter_among (λ position. list_any (nat_eq position) first.places) place (range_with_len 0 (arity_of task first.predicate)) there).1

  pub in_rising : (place : ℕ) → Among place first.places → Among place rising
  in_rising place there =
      let below = is.within place (among_left place first.places (option_to_list first.counted) there) in
      among_filter (λ position. list_any (nat_eq position) first.places) place (range_with_len 0 (arity_of task first.predicate))
      (range_among 0 (arity_of task first.predicate) place (omega arith) (omega (arith, below))) (any_passes (nat_eq place) place first.places there (nat_eq_equiv.refl place))

  pub rising-once : Once rising
  rising-once = once_filter (λ position. list_any (nat_eq position) first.places) (range_with_len 0 (arity_of task first.predicate)) (once_range 0 (arity_of task first.predicate))

  pub rising-many : length rising ≡ parameters
  rising-many =
      let fewer = no_longer rising first.places rising-once of_first in
      let more = no_longer first.places rising first_once in_rising in
      let many = is.as_many in
      omega (arith, fewer, more, many)

  pub found_first : (place : ℕ) → Among place rising → (position_or_len (nat_eq place) first.places < parameters) × (get_or first.places (position_or_len (nat_eq place) first.places) 0 ≡ place)
  found_first place there =
      let at = found first.places place first_once (of_first place there) in
      (subst (λ n. position_or_len (nat_eq place) first.places < n) is.as_many at.0, at.1)

  -- the place of the parameter that the first part has there
  abbrev place_like : List ℕ → ℕ → ℕ
  place_like places place = get_or places (position_or_len (nat_eq place) first.places) 0

  module _ (part : Part) (part_is : IsPartFor task parameters part) where
    pub part_once : Once part.places
    part_once = once_front part.places (option_to_list part.counted) part_is.once

    kept_place : (place : ℕ) → Among place (map (place_like part.places) rising) → Among place part.places
    kept_place place there =
        let from = map_source (place_like part.places) rising place there in
        let many = part_is.as_many in
        let below = (found_first from.source from.among).0 in
        subst (λ p. Among p part.places) from.gives (among_at part.places (position_or_len (nat_eq from.source) first.places) 0 (omega (arith, many, below)))

    renamed-once : Once (map (place_like part.places) rising)
    renamed-once = once_map (place_like part.places) rising apart rising-once
      where
        apart : (x y : ℕ) → Among x rising → Among y rising → place_like part.places x ≡ place_like part.places y → x ≡ y
        apart x y in-x in-y same =
            let at-x = found_first x in-x in
            let at-y = found_first y in-y in
            let many = part_is.as_many in
            let low-x = at-x.0 in
            let low-y = at-y.0 in
            let place = same_place part.places 0 (position_or_len (nat_eq x) first.places) (position_or_len (nat_eq y) first.places) part_once (omega (arith, many, low-x)) (omega (arith, many, low-y)) same in
            sym at-x.1 ∙ ap (λ n. get_or first.places n 0) place ∙ at-y.1

    pub renamed_part : IsPartFor task parameters (renamed rising first part)
    renamed_part =
        let new = map (place_like part.places) rising in
        let counted = option_to_list part.counted in
        let many : length new ≡ parameters = length-map rising (place_like part.places) ∙ rising-many in
        let old = part_is.as_many in
        let all-new = length-append new counted in
        let all-old = length-append part.places counted in
        let all = part_is.all in
        record {
          changes = part_is.changes;
          as_many = many;
          all = omega (arith, many, old, all-new, all-old, all);
          within = λ place there. part_is.within place (elim (among_which place new counted there) [
            | inl front ↦ among_left place part.places counted (kept_place place front)
            | inr last ↦ among_right place part.places counted last
          ]);
          once = once_append new counted renamed-once (once_behind part.places counted part_is.once) (λ place front last. once_apart part.places counted part_is.once place (kept_place place front) last);
        }

    -- no two lists of places are renamed alike
    pub renamed_apart : (places : List ℕ) → length places ≡ parameters → map (place_like part.places) rising ≡ map (place_like places) rising → part.places ≡ places
    renamed_apart places as_many same =
        same_at_each part.places places (part_is.as_many ∙ sym as_many) at
      where
        at : (i : ℕ) → i < length part.places → get_or part.places i 0 ≡ get_or places i 0
        at i within =
            let many = part_is.as_many in
            let many-first = is.as_many in
            let below : i < length first.places = omega (arith, within, many, many-first) in
            let place = get_or first.places i 0 in
            let at-place = position_once first.places i first_once below in
            let read = same_image (place_like part.places) (place_like places) rising same place (in_rising place (among_at first.places i 0 below)) in
            sym (ap (λ n. get_or part.places n 0) at-place) ∙ read ∙ ap (λ n. get_or places n 0) at-place

  -- the first part's own places then rise
  pub first_rises : map (place_like first.places) rising ≡ rising
  first_rises = same_map (place_like first.places) (λ (place : ℕ). place) rising (λ place there. (found_first place there).1) ∙ map_itself rising

  pub rising_is : is_rising rising ≡ true
  rising_is = rising_filter (λ position. list_any (nat_eq position) first.places) (range_with_len 0 (arity_of task first.predicate)) (rising_range 0 (arity_of task first.predicate))
