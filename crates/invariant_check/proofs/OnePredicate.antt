-- The candidates with one part are the well-formed ones, each once.
use Rattle.std.proofs.Common.{◌≡◌, ℕ, ◌<◌, ◌≤◌, true, false, not, ◌&&◌, ◌⊎◌, inl, inr, List, [], ◌∷◌, map, length, Option, refl, sym, ap, ◌∙◌, subst, arith}
use Rattle.std.specs.List.{list_all, range_with_len}
use Rattle.std.specs.Option.{option_map_or}
use Rattle.std.proofs.lemmas.Bool.{true≢false, and_from, cases_lt}
use Rattle.std.proofs.lemmas.Option.{slice_get_past}
use Rattle.lists.proofs.Items.{Among, among_map, map_source, filter_among, among_filter, among_flat_map, flat_map_piece}
use Rattle.lists.proofs.NoRepeats.{Once, once_filter, once_map, once_flat_map, range_among, once_range}
use Rattle.normal_task.specs.declared.task.Normal.{Normal}
use Rattle.normal_task.specs.declared.task.PredicateRow.{PredicateRow}
use Rattle.normal_task.specs.Lawful.{is_rising}
use Rattle.contradictions.specs.declared.types.Candidate.{Candidate}
use Rattle.contradictions.specs.declared.types.Part.{Part}
use Rattle.invariant_check.specs.Names.{of_parts}
use Rattle.invariant_check.specs.Extensions.{is_changing, arity_of, changing, left_by, countings, part_at, with_one, one_predicate}
use Rattle.invariant_check.specs.WellFormed.{is_part_for, is_well_formed}
use Rattle.invariant_check.proofs.FormedParts.{AreFormed, predicates, part_test, formed_facts}
use Rattle.invariant_check.proofs.PartsOf.{IsCounting, counting_part, once_left, rising_left, once_countings, counting_is, all_left}

pub changing_facts : (task : Normal) (predicate : ℕ) → Among predicate (changing task) → is_changing task predicate ≡ true
changing_facts task predicate there = (filter_among (is_changing task) predicate (range_with_len 0 (length task.predicates)) there).1

pub changing_below : (task : Normal) (predicate : ℕ) → is_changing task predicate ≡ true → predicate < length task.predicates
changing_below task predicate is = by (cases_lt predicate (length task.predicates))
  where
    by : (predicate < length task.predicates) ⊎ (length task.predicates ≤ predicate) → predicate < length task.predicates
    by (inl within) = within
    by (inr past) = absurd (true≢false (sym is ∙ ap (λ (row : Option PredicateRow). option_map_or (λ r. not r.derived && not r.fixed) row false) (slice_get_past task.predicates predicate past)))

pub among_changing : (task : Normal) (predicate : ℕ) → is_changing task predicate ≡ true → Among predicate (changing task)
among_changing task predicate is =
    let below = changing_below task predicate is in
    among_filter (is_changing task) predicate (range_with_len 0 (length task.predicates)) (range_among 0 (length task.predicates) predicate (omega arith) (omega (arith, below))) is

pub once_changing : (task : Normal) → Once (changing task)
once_changing task = once_filter (is_changing task) (range_with_len 0 (length task.predicates)) (once_range 0 (length task.predicates))

well_formed_alone : (task : Normal) (predicate : ℕ) (counted : Option ℕ) → is_changing task predicate ≡ true → Among counted (countings (arity_of task predicate)) →
    is_well_formed task (with_one predicate (arity_of task predicate) counted) ≡ true
well_formed_alone task predicate counted changes there =
    let arity = arity_of task predicate in
    let places = left_by arity counted in
    let one = part_at predicate counted places in
    let counting : IsCounting predicate arity (length places) counted one = record {
      of_predicate = refl;
      counts = refl;
      order = record { as_many = refl; among = λ place in'. in'; once = once_left arity counted };
      left = refl;
    } in
    let is = part_test task (length places) one (counting_part task predicate (length places) counted one changes there counting) in
    and_from (list_all (is_part_for task (length places)) (one ∷ []) && true) (is_rising places)
    (and_from (list_all (is_part_for task (length places)) (one ∷ [])) true (and_from (is_part_for task (length places) one) true is refl) refl) (rising_left arity counted)

pub one_predicate_formed : (task : Normal) (candidate : Candidate) → Among candidate (one_predicate task) → is_well_formed task candidate ≡ true
one_predicate_formed task candidate there =
    let piece = flat_map_piece (λ predicate. map (with_one predicate (arity_of task predicate)) (countings (arity_of task predicate))) (changing task) candidate there in
    let from = map_source (with_one piece.source (arity_of task piece.source)) (countings (arity_of task piece.source)) candidate piece.inside in
    subst (λ c. is_well_formed task c ≡ true) from.gives (well_formed_alone task piece.source from.source (changing_facts task piece.source piece.among) from.among)

abbrev only_part : Normal → ℕ → Option ℕ → Part
only_part task predicate counted = part_at predicate counted (left_by (arity_of task predicate) counted)

first_part : Part → List Part → Part
first_part other [] = other
first_part other (first ∷ more) = first

pub once_one_predicate : (task : Normal) → Once (one_predicate task)
unfolding first_part
once_one_predicate task =
    once_flat_map (λ predicate. map (with_one predicate (arity_of task predicate)) (countings (arity_of task predicate))) (changing task) (once_changing task)
    (λ predicate there. once_map (with_one predicate (arity_of task predicate)) (countings (arity_of task predicate))
    (λ x y in-x in-y same. ap (λ (part : Part). part.counted) (firsts predicate predicate x y same)) (once_countings (arity_of task predicate)))
    (λ x y item in-x in-y of-x of-y.
    let from-x = map_source (with_one x (arity_of task x)) (countings (arity_of task x)) item of-x in
    let from-y = map_source (with_one y (arity_of task y)) (countings (arity_of task y)) item of-y in
    ap (λ (part : Part). part.predicate) (firsts x y from-x.source from-y.source (from-x.gives ∙ sym from-y.gives)))
  where
    firsts : (x y : ℕ) (a b : Option ℕ) → with_one x (arity_of task x) a ≡ with_one y (arity_of task y) b → only_part task x a ≡ only_part task y b
    firsts x y a b same = ap (λ (c : Candidate). first_part (only_part task x a) c.parts) same

pub one_part : (task : Normal) (candidate : Candidate) → Among candidate (one_predicate task) → length candidate.parts ≡ 1
one_part task candidate there =
    let piece = flat_map_piece (λ predicate. map (with_one predicate (arity_of task predicate)) (countings (arity_of task predicate))) (changing task) candidate there in
    let from = map_source (with_one piece.source (arity_of task piece.source)) (countings (arity_of task piece.source)) candidate piece.inside in
    ap (λ (c : Candidate). length c.parts) (sym from.gives)

-- a well-formed candidate of one part is listed
pub one_listed : (task : Normal) (candidate : Candidate) → is_well_formed task candidate ≡ true → length candidate.parts ≡ 1 → Among candidate (one_predicate task)
one_listed task candidate formed one = by candidate.parts (formed_facts task candidate formed) one
  where
    by : (parts : List Part) → AreFormed task candidate.parameters parts → length parts ≡ 1 → Among (of_parts candidate.parameters parts) (one_predicate task)
    by [] facts many = absurd (omega (arith, many))
    by (part ∷ next ∷ more) facts many = absurd (omega (arith, many))
    by (part ∷ []) facts many =
        let is = facts.each part (inl refl) in
        let arity = arity_of task part.predicate in
        let same : with_one part.predicate arity part.counted ≡ of_parts candidate.parameters (part ∷ []) =
        ap (λ l. of_parts (length l) (part_at part.predicate part.counted l ∷ [])) (sym (all_left task candidate.parameters part is facts.named)) ∙ ap (λ n. of_parts n (part ∷ [])) is.as_many in
        among_flat_map (λ predicate. map (with_one predicate (arity_of task predicate)) (countings (arity_of task predicate))) part.predicate (of_parts candidate.parameters (part ∷ [])) (changing task)
        (among_changing task part.predicate is.changes)
        (subst (λ c. Among c (map (with_one part.predicate arity) (countings arity))) same
        (among_map (with_one part.predicate arity) part.counted (countings arity) (counting_is task candidate.parameters part is)))
