-- The parts of a predicate for so many parameters: each stands once in the list of them.
use Rattle.std.proofs.Common.{◌≡◌, ℕ, zero, suc, ◌+◌, ◌<◌, ◌≤◌, Bool, true, false, not, ◌⊎◌, inl, inr, List, [], ◌∷◌, ◌++◌, map, length, Option, Some, None, refl, sym, ap, ◌∙◌, subst, arith}
use Rattle.std.specs.Prelude.{nat_eq, if◌then◌else◌}
use Rattle.std.specs.List.{range_with_len}
use Rattle.std.specs.Option.{option_to_list}
use Rattle.std.proofs.lemmas.Bool.{true≢false, not-true, not_from_false, eqb-true, eq-eqb, ne_eqb, cases_Bool, cases_eq}
use Rattle.std.proofs.lemmas.List.{length-append}
use Rattle.std.proofs.lemmas.List.FromFn.{length-range_with_len}
use Rattle.std.proofs.lemmas.Option.{none-some}
use Rattle.lists.proofs.Items.{Among, among_map, map_source, among_which, among_left, among_right, filter_among, among_filter, among_flat_map, flat_map_piece, map_itself}
use Rattle.lists.proofs.Members.{filter_every}
use Rattle.lists.proofs.NoRepeats.{Once, once_append, once_filter, once_map, once_flat_map, once_front, once_apart, among_range, range_among, once_range, no_longer, all_there}
use Rattle.normal_task.specs.declared.task.Normal.{Normal}
use Rattle.normal_task.specs.Lawful.{is_rising}
use Rattle.contradictions.specs.declared.types.Part.{Part}
use Rattle.invariant_check.specs.Extensions.{is_changing, arity_of, is_counted, left_by, countings, without, orders, part_at, parts_counting, parts_of}
use Rattle.invariant_check.specs.WellFormed.{used_places}
use Rattle.normal_task.proofs.RisingLists.{rising_filter, rising_range, same_rising}
use Rattle.invariant_check.proofs.FormedParts.{IsPartFor}

-- ---- orders of places

among_without : (place other : ℕ) (places : List ℕ) → Among other (without place places) → Among other places × (other ≡ place → ⊥)
among_without place other places there =
    let parts = filter_among (λ o. not (nat_eq o place)) other places there in
    (parts.0, λ same. true≢false (sym (eq-eqb other place same) ∙ not-true (nat_eq other place) parts.1))

pub without_among : (place other : ℕ) (places : List ℕ) → Among other places → (other ≡ place → ⊥) → Among other (without place places)
without_among place other places there apart = among_filter (λ o. not (nat_eq o place)) other places there (not_from_false (nat_eq other place) (ne_eqb other place apart))

pub record IsOrder (places : List ℕ) (count : ℕ) (order : List ℕ) : Type 0 where
  pub as_many : length order ≡ count
  pub among : (place : ℕ) → Among place order → Among place places
  pub once : Once order

pub order_facts : (places : List ℕ) (count : ℕ) (order : List ℕ) → Among order (orders places count) → IsOrder places count order
order_facts places zero order (inl here) = record { as_many = sym (ap length here); among = λ place there. absurd (subst (Among place) (sym here) there); once = subst Once here tt }
order_facts places zero order (inr none) = absurd none
order_facts places (suc count) order there =
    let piece = flat_map_piece (λ place. map (λ others. place ∷ others) (orders (without place places) count)) places order there in
    let from = map_source (λ others. piece.source ∷ others) (orders (without piece.source places) count) order piece.inside in
    let rest = order_facts (without piece.source places) count from.source from.among in
    let whole : IsOrder places (suc count) (piece.source ∷ from.source) = record {
      as_many = ap (λ (n : ℕ). suc n) rest.as_many;
      among = λ place in'. elim in' [ inl here ↦ subst (λ p. Among p places) here piece.among | inr behind ↦ (among_without piece.source place places (rest.among place behind)).0 ];
      once = (λ in'. (among_without piece.source piece.source places (rest.among piece.source in')).1 refl, rest.once);
    } in
    subst (IsOrder places (suc count)) from.gives whole

pub once_orders : (places : List ℕ) (count : ℕ) → Once places → Once (orders places count)
once_orders places zero once = (λ none. none, tt)
once_orders places (suc count) once =
    once_flat_map (λ place. map (λ others. place ∷ others) (orders (without place places) count)) places once
    (λ place there. once_map (λ others. place ∷ others) (orders (without place places) count) (λ x y in-x in-y same. let tails : x ≡ y = cc same in tails)
    (once_orders (without place places) count (once_filter (λ o. not (nat_eq o place)) places once)))
    (λ x y item in-x in-y of-x of-y.
    let from-x = map_source (λ others. x ∷ others) (orders (without x places) count) item of-x in
    let from-y = map_source (λ others. y ∷ others) (orders (without y places) count) item of-y in
    let both : x ∷ from-x.source ≡ y ∷ from-y.source = from-x.gives ∙ sym from-y.gives in
    let heads : x ≡ y = cc both in heads)

-- each order of places of the list is listed
order_listed : (places order : List ℕ) → Once order → ((place : ℕ) → Among place order → Among place places) → Among order (orders places (length order))
order_listed places [] once in' = inl refl
order_listed places (first ∷ order) once in' =
    among_flat_map (λ place. map (λ others. place ∷ others) (orders (without place places) (length order))) first (first ∷ order) places (in' first (inl refl))
    (among_map (λ others. first ∷ others) order (orders (without first places) (length order))
    (order_listed (without first places) order once.1 (λ place there. without_among first place places (in' place (inr there)) (λ same. once.0 (subst (λ p. Among p order) same there)))))

-- ---- the places that are left

pub once_left : (arity : ℕ) (counted : Option ℕ) → Once (left_by arity counted)
once_left arity counted = once_filter (λ position. not (is_counted counted position)) (range_with_len 0 arity) (once_range 0 arity)

pub rising_left : (arity : ℕ) (counted : Option ℕ) → is_rising (left_by arity counted) ≡ true
rising_left arity counted = rising_filter (λ position. not (is_counted counted position)) (range_with_len 0 arity) (rising_range 0 arity)

left_below : (arity : ℕ) (counted : Option ℕ) (place : ℕ) → Among place (left_by arity counted) → place < arity
left_below arity counted place there =
    let in' = (among_range 0 arity place (filter_among (λ position. not (is_counted counted position)) place (range_with_len 0 arity) there).0).1 in
    omega (arith, in')

left_apart : (arity : ℕ) (counted : Option ℕ) (place : ℕ) → Among place (left_by arity counted) → Among place (option_to_list counted) → ⊥
left_apart arity None place there none = none
left_apart arity (Some other) place there (inl here) = (among_without other place (range_with_len 0 arity) there).1 (sym here)
left_apart arity (Some other) place there (inr none) = none

counted_below : (arity : ℕ) (counted : Option ℕ) (place : ℕ) → Among counted (countings arity) → Among place (option_to_list counted) → place < arity
counted_below arity None place in' none = absurd none
counted_below arity (Some other) place in' (inr none) = absurd none
counted_below arity (Some other) place (inl here) (inl is) = absurd (none-some other here)
counted_below arity (Some other) place (inr there) (inl is) =
    let from = map_source (λ (n : ℕ). Some n) (range_with_len 0 arity) (Some other) there in
    let value : from.source ≡ other = cc from.gives in
    let below = (among_range 0 arity from.source from.among).1 in
    omega (arith, below, value, is)

once_list : (counted : Option ℕ) → Once (option_to_list counted)
once_list None = tt
once_list (Some place) = (λ none. none, tt)

length-without : (place : ℕ) (places : List ℕ) → Once places → Among place places → suc (length (without place places)) ≡ length places
length-without place places once there =
    let fewer : suc (length (without place places)) ≤ length places =
    no_longer (place ∷ without place places) places (λ in'. (among_without place place places in').1 refl, once_filter (λ other. not (nat_eq other place)) places once)
    (λ other in'. elim in' [ inl here ↦ subst (λ p. Among p places) here there | inr behind ↦ (among_without place other places behind).0 ]) in
    let more : length places ≤ suc (length (without place places)) =
    no_longer places (place ∷ without place places) once (λ other in'. elim (cases_eq other place) [ inl same ↦ inl (sym same) | inr apart ↦ inr (without_among place other places in' apart) ]) in
    omega (arith, fewer, more)

-- all places are left, but for the counted one
left_all : (arity : ℕ) (counted : Option ℕ) → Among counted (countings arity) → arity ≡ length (left_by arity counted) + length (option_to_list counted)
left_all arity None there =
    let whole = ap length (filter_every (λ position. not (is_counted None position)) (range_with_len 0 arity) (λ position in'. refl)) ∙ length-range_with_len 0 arity in
    omega (arith, whole)
left_all arity (Some place) there =
    let below = counted_below arity (Some place) place there (inl refl) in
    let one = length-without place (range_with_len 0 arity) (once_range 0 arity) (range_among 0 arity place (omega arith) (omega (arith, below))) in
    let whole = length-range_with_len 0 arity in
    omega (arith, one, whole)

-- ---- parts of a predicate

-- what a part has that counts this place
pub record IsCounting (predicate arity parameters : ℕ) (counted : Option ℕ) (part : Part) : Type 0 where
  pub of_predicate : part.predicate ≡ predicate
  pub counts : part.counted ≡ counted
  pub order : IsOrder (left_by arity counted) parameters part.places
  pub left : length (left_by arity counted) ≡ parameters

pub counting_part : (task : Normal) (predicate parameters : ℕ) (counted : Option ℕ) (part : Part) → is_changing task predicate ≡ true → Among counted (countings (arity_of task predicate)) →
    IsCounting predicate (arity_of task predicate) parameters counted part → IsPartFor task parameters part
counting_part task predicate parameters counted part changes among counting =
    let arity = arity_of task predicate in
    let used : used_places part ≡ part.places ++ option_to_list counted = ap (λ c. part.places ++ option_to_list c) counting.counts in
    let arity_is : arity_of task part.predicate ≡ arity = ap (arity_of task) counting.of_predicate in
    let many : length (used_places part) ≡ length part.places + length (option_to_list counted) = ap length used ∙ length-append part.places (option_to_list counted) in
    let as_many = counting.order.as_many in
    let left = counting.left in
    let all = left_all arity counted among in
    record {
      changes = ap (is_changing task) counting.of_predicate ∙ changes;
      as_many = counting.order.as_many;
      all = omega (arith, many, as_many, left, all, arity_is);
      within = λ place there. subst (λ a. place < a) (sym arity_is) (elim (among_which place part.places (option_to_list counted) (subst (Among place) used there)) [
        | inl first ↦ left_below arity counted place (counting.order.among place first)
        | inr last ↦ counted_below arity counted place among last
      ]);
      once = subst Once (sym used) (once_append part.places (option_to_list counted) counting.order.once (once_list counted) (λ place first last. left_apart arity counted place (counting.order.among place first) last));
    }

module _ (predicate arity parameters : ℕ) (counted : Option ℕ) where
  -- one for each order of the places that are left
  placed : List Part
  placed = map (part_at predicate counted) (orders (left_by arity counted) parameters)

  pub counting_facts : (part : Part) → Among part (parts_counting predicate arity parameters counted) → IsCounting predicate arity parameters counted part
  unfolding placed
  counting_facts part there = by (cases_Bool (nat_eq (length (left_by arity counted)) parameters))
    where
      by : (nat_eq (length (left_by arity counted)) parameters ≡ true) ⊎ (nat_eq (length (left_by arity counted)) parameters ≡ false) → IsCounting predicate arity parameters counted part
      by (inl is) =
          let from = map_source (part_at predicate counted) (orders (left_by arity counted) parameters) part (subst (λ (b : Bool). Among part (if b then placed else [])) is there) in
          let order = order_facts (left_by arity counted) parameters from.source from.among in
          subst (IsCounting predicate arity parameters counted) from.gives (record { of_predicate = refl; counts = refl; order = order; left = eqb-true (length (left_by arity counted)) parameters is })
      by (inr not) = absurd (subst (λ (b : Bool). Among part (if b then placed else [])) not there)

  once_counting : Once (parts_counting predicate arity parameters counted)
  unfolding placed
  once_counting = by (nat_eq (length (left_by arity counted)) parameters)
    where
      by : (b : Bool) → Once (if b then placed else [])
      by true =
          once_map (part_at predicate counted) (orders (left_by arity counted) parameters) (λ x y in-x in-y same. ap (λ (p : Part). p.places) same)
          (once_orders (left_by arity counted) parameters (once_left arity counted))
      by false = tt

pub once_countings : (arity : ℕ) → Once (countings arity)
once_countings arity = (
  λ there. let from = map_source (λ (n : ℕ). Some n) (range_with_len 0 arity) None there in let same = from.gives in cc same,
  once_map (λ (n : ℕ). Some n) (range_with_len 0 arity) (λ x y in-x in-y same. let is : x ≡ y = cc same in is) (once_range 0 arity),
)

pub parts_facts : (task : Normal) (parameters predicate : ℕ) (part : Part) → is_changing task predicate ≡ true → Among part (parts_of task parameters predicate) → IsPartFor task parameters part × (part.predicate ≡ predicate)
parts_facts task parameters predicate part changes there =
    let arity = arity_of task predicate in
    let piece = flat_map_piece (parts_counting predicate arity parameters) (countings arity) part there in
    let counting = counting_facts predicate arity parameters piece.source part piece.inside in
    (counting_part task predicate parameters piece.source part changes piece.among counting, counting.of_predicate)

pub once_parts : (task : Normal) (parameters predicate : ℕ) → Once (parts_of task parameters predicate)
once_parts task parameters predicate =
    let arity = arity_of task predicate in
    once_flat_map (parts_counting predicate arity parameters) (countings arity) (once_countings arity) (λ counted there. once_counting predicate arity parameters counted)
    (λ x y item in-x in-y of-x of-y. sym (counting_facts predicate arity parameters x item of-x).counts ∙ (counting_facts predicate arity parameters y item of-y).counts)

-- ---- each part for the parameters is one of them

module _ (task : Normal) (parameters : ℕ) (part : Part) (is : IsPartFor task parameters part) where
  abbrev arity : ℕ
  arity = arity_of task part.predicate

  pub places_once : Once part.places
  places_once = once_front part.places (option_to_list part.counted) is.once

  pub counting_is : Among part.counted (countings arity)
  counting_is = by part.counted (λ place in'. is.within place (among_right place part.places (option_to_list part.counted) in'))
    where
      by : (counted : Option ℕ) → ((place : ℕ) → Among place (option_to_list counted) → place < arity) → Among counted (countings arity)
      by None below = inl refl
      by (Some place) below =
          let low = below place (inl refl) in
          inr (among_map (λ (n : ℕ). Some n) place (range_with_len 0 arity) (range_among 0 arity place (omega arith) (omega (arith, low))))

  left_many : length (left_by arity part.counted) ≡ length part.places
  left_many =
      let all = left_all arity part.counted counting_is in
      let used = is.all in
      let joined = length-append part.places (option_to_list part.counted) in
      omega (arith, all, used, joined)

  in_left : (place : ℕ) → Among place part.places → Among place (left_by arity part.counted)
  in_left place there =
      let below = is.within place (among_left place part.places (option_to_list part.counted) there) in
      among_filter (λ position. not (is_counted part.counted position)) place (range_with_len 0 arity) (range_among 0 arity place (omega arith) (omega (arith, below)))
      (uncounted part.counted (once_apart part.places (option_to_list part.counted) is.once place there))
    where
      uncounted : (counted : Option ℕ) → (Among place (option_to_list counted) → ⊥) → not (is_counted counted place) ≡ true
      uncounted None apart = refl
      uncounted (Some other) apart = not_from_false (nat_eq place other) (ne_eqb place other (λ same. apart (inl (sym same))))

  pub part_listed : Among part (parts_of task parameters part.predicate)
  part_listed =
      among_flat_map (parts_counting part.predicate arity parameters) part.counted part (countings arity) counting_is
      (subst (λ (b : Bool). Among part (if b then map (part_at part.predicate part.counted) (orders (left_by arity part.counted) parameters) else []))
      (sym (eq-eqb (length (left_by arity part.counted)) parameters (left_many ∙ is.as_many)))
      (among_map (part_at part.predicate part.counted) part.places (orders (left_by arity part.counted) parameters)
      (subst (λ n. Among part.places (orders (left_by arity part.counted) n)) is.as_many (order_listed (left_by arity part.counted) part.places places_once in_left))))

  -- where its places rise, they are all that are left
  pub all_left : is_rising part.places ≡ true → part.places ≡ left_by arity part.counted
  all_left rises =
      same_rising (λ (n : ℕ). n) part.places (left_by arity part.counted) (subst (λ l. is_rising l ≡ true) (sym (map_itself part.places)) rises)
      (subst (λ l. is_rising l ≡ true) (sym (map_itself (left_by arity part.counted))) (rising_left arity part.counted)) in_left
      (all_there part.places (left_by arity part.counted) places_once in_left (let many = left_many in omega (arith, many)))
