-- The candidates with one part more than a well-formed one are well formed, and each stands once in the list of them.
use Rattle.std.proofs.Common.{◌≡◌, ℕ, suc, ◌<◌, ◌≤◌, Bool, true, false, not, ◌⊎◌, inl, inr, List, [], ◌∷◌, map, length, get_or, refl, sym, ap, ◌∙◌, subst, arith}
use Rattle.std.specs.Prelude.{nat_eq, nat_lt, if◌then◌else◌}
use Rattle.std.specs.List.{filter, flat_map, range_with_len, position_or_len}
use Rattle.std.proofs.lemmas.Bool.{true≢false, not-true, not_from_false, eqb-true, eq-eqb, ltb-true, ltb-false}
use Rattle.std.proofs.lemmas.List.{length-map}
use Rattle.std.proofs.lemmas.List.FromFn.{length-range_with_len}
use Rattle.std.proofs.lemmas.Simd.{map-map}
use Rattle.lists.proofs.Items.{Among, among_at, among_map, map_source, filter_among, among_filter, among_flat_map, flat_map_piece, any_passes, none_passes}
use Rattle.lists.proofs.NoRepeats.{Once, once_filter, once_map, once_flat_map, range_among, no_longer, same_place, position_once, same_at_each, same_image}
use Rattle.normal_task.specs.declared.task.Normal.{Normal}
use Rattle.normal_task.specs.Lawful.{is_rising}
use Rattle.contradictions.specs.declared.types.Candidate.{Candidate}
use Rattle.contradictions.specs.declared.types.Part.{Part}
use Rattle.invariant_check.specs.Extensions.{changing, part_at, parts_of, put_in, renamed, rising_places, in_form, with_part, has_predicate, extensions}
use Rattle.invariant_check.specs.WellFormed.{is_well_formed}
use Rattle.normal_task.proofs.RisingLists.{rises_from, rises_behind, below_rising, once_rising}
use Rattle.invariant_check.proofs.FormedParts.{IsPartFor, AreFormed, predicates, formed_facts, formed_test}
use Rattle.invariant_check.proofs.NamedAnew.{renamed_part, renamed_apart, first_rises, rising_is, in_rising, found_first, part_once, first_once}
use Rattle.invariant_check.proofs.PartsOf.{parts_facts, once_parts, part_listed}
use Rattle.invariant_check.proofs.OnePredicate.{changing_facts, changing_below, among_changing, once_changing}

-- ---- one part more

pub put_among : (part : Part) (parts : List Part) (other : Part) → Among other (put_in part parts) → (part ≡ other) ⊎ Among other parts
put_among part [] other (inl here) = inl here
put_among part [] other (inr none) = absurd none
put_among part (first ∷ more) other there = by (nat_lt part.predicate first.predicate) there (put_among part more other)
  where
    by : (b : Bool) → Among other (if b then part ∷ first ∷ more else first ∷ put_in part more) → (Among other (put_in part more) → (part ≡ other) ⊎ Among other more) → (part ≡ other) ⊎ Among other (first ∷ more)
    by true (inl here) rest = inl here
    by true (inr behind) rest = inr behind
    by false (inl here) rest = inr (inl here)
    by false (inr behind) rest = elim (rest behind) [ inl new ↦ inl new | inr old ↦ inr (inr old) ]

pub among_put : (part : Part) (parts : List Part) → Among part (put_in part parts)
among_put part [] = inl refl
among_put part (first ∷ more) = by (nat_lt part.predicate first.predicate) (among_put part more)
  where
    by : (b : Bool) → Among part (put_in part more) → Among part (if b then part ∷ first ∷ more else first ∷ put_in part more)
    by true rest = inl refl
    by false rest = inr rest

pub kept_put : (part : Part) (parts : List Part) (other : Part) → (part ≡ other) ⊎ Among other parts → Among other (put_in part parts)
kept_put part parts other (inl here) = subst (λ (p : Part). Among p (put_in part parts)) here (among_put part parts)
kept_put part [] other (inr none) = absurd none
kept_put part (first ∷ more) other (inr there) = by (nat_lt part.predicate first.predicate) there (λ behind. kept_put part more other (inr behind))
  where
    by : (b : Bool) → Among other (first ∷ more) → (Among other more → Among other (put_in part more)) → Among other (if b then part ∷ first ∷ more else first ∷ put_in part more)
    by true in' rest = inr in'
    by false (inl here) rest = inl here
    by false (inr behind) rest = inr (rest behind)

pub rising_put : (part : Part) (parts : List Part) → (Among part.predicate (predicates parts) → ⊥) → is_rising (predicates parts) ≡ true → is_rising (predicates (put_in part parts)) ≡ true
rising_put part [] new is = refl
rising_put part (first ∷ more) new is = by (nat_lt part.predicate first.predicate) refl (rising_put part more (λ there. new (inr there)) (rises_behind first.predicate (predicates more) is))
  where
    later : part.predicate < first.predicate → (other : ℕ) → Among other (predicates (first ∷ more)) → part.predicate < other
    later before other (inl here) = subst (λ n. part.predicate < n) here before
    later before other (inr there) = let below = below_rising first.predicate (predicates more) is other there in omega (arith, before, below)

    apart : first.predicate ≡ part.predicate → ⊥
    apart same = new (inl same)

    below : nat_lt part.predicate first.predicate ≡ false → (other : ℕ) → Among other (predicates (put_in part more)) → first.predicate < other
    below not-before other there =
        let from = map_source (λ (p : Part). p.predicate) (put_in part more) other there in
        subst (λ n. first.predicate < n) from.gives (elim (put_among part more from.source from.among) [
          | inl new-one ↦ subst (λ (p : Part). first.predicate < p.predicate) new-one (before-part (ltb-false part.predicate first.predicate not-before))
          | inr old ↦ below_rising first.predicate (predicates more) is from.source.predicate (among_map (λ (p : Part). p.predicate) from.source more old)
        ])
      where
        before-part : first.predicate ≤ part.predicate → first.predicate < part.predicate
        before-part low = let differ = apart in omega (arith, low, differ)

    by : (b : Bool) → nat_lt part.predicate first.predicate ≡ b → is_rising (predicates (put_in part more)) ≡ true → is_rising (predicates (if b then part ∷ first ∷ more else first ∷ put_in part more)) ≡ true
    by true e rest = rises_from part.predicate (predicates (first ∷ more)) (later (ltb-true part.predicate first.predicate e)) is
    by false e rest = rises_from first.predicate (predicates (put_in part more)) (below e) rest

-- parts in order, with the parameters named by the first
formed_in_form : (task : Normal) (parameters : ℕ) (first : Part) (more : List Part) → ((part : Part) → Among part (first ∷ more) → IsPartFor task parameters part) →
    is_rising (predicates (first ∷ more)) ≡ true → AreFormed task parameters (in_form task (first ∷ more))
formed_in_form task parameters first more each by_predicate = record {
  each = λ part there.
      let from = map_source (renamed (rising_places task first) first) (first ∷ more) part there in
      subst (IsPartFor task parameters) from.gives (renamed_part task parameters first (each first (inl refl)) from.source (each from.source from.among));
  by_predicate = ap is_rising (same (first ∷ more)) ∙ by_predicate;
  named = ap is_rising (first_rises task parameters first (each first (inl refl))) ∙ rising_is task parameters first (each first (inl refl));
}
  where
    same : (parts : List Part) → predicates (map (renamed (rising_places task first) first) parts) ≡ predicates parts
    same [] = refl
    same (part ∷ parts) = ap (λ l. part.predicate ∷ l) (same parts)

pub with_part_formed : (task : Normal) (candidate : Candidate) (part : Part) → AreFormed task candidate.parameters candidate.parts → IsPartFor task candidate.parameters part →
    (Among part.predicate (predicates candidate.parts) → ⊥) → AreFormed task candidate.parameters (in_form task (put_in part candidate.parts))
with_part_formed task candidate part formed part_is new =
    by candidate.parts (λ other there. elim (put_among part candidate.parts other there) [ inl same ↦ subst (IsPartFor task candidate.parameters) same part_is | inr old ↦ formed.each other old ]) (rising_put part candidate.parts new formed.by_predicate)
  where
    by : (parts : List Part) → ((other : Part) → Among other (put_in part parts) → IsPartFor task candidate.parameters other) → is_rising (predicates (put_in part parts)) ≡ true →
        AreFormed task candidate.parameters (in_form task (put_in part parts))
    by [] each rises = formed_in_form task candidate.parameters part [] each rises
    by (first ∷ more) each rises = at (nat_lt part.predicate first.predicate) each rises
      where
        at : (b : Bool) → ((other : Part) → Among other (if b then part ∷ first ∷ more else first ∷ put_in part more) → IsPartFor task candidate.parameters other) →
            is_rising (predicates (if b then part ∷ first ∷ more else first ∷ put_in part more)) ≡ true → AreFormed task candidate.parameters (in_form task (if b then part ∷ first ∷ more else first ∷ put_in part more))
        at true each' rises' = formed_in_form task candidate.parameters part (first ∷ more) each' rises'
        at false each' rises' = formed_in_form task candidate.parameters first (put_in part more) each' rises'

-- ---- no two parts give the same candidate

same_part : (predicate : ℕ) (one other : Part) → one.predicate ≡ other.predicate → one.places ≡ other.places → one.counted ≡ other.counted → one ≡ other
same_part predicate one other of_one places counts =
    ap (λ p. part_at p one.counted one.places) of_one ∙ ap (λ l. part_at other.predicate one.counted l) places ∙ ap (λ c. part_at other.predicate c other.places) counts

module _ (task : Normal) (parameters : ℕ) (one other : Part) (one_is : IsPartFor task parameters one) (other_is : IsPartFor task parameters other) (predicate_is : one.predicate ≡ other.predicate) where
  module _ (first : Part) (first_is : IsPartFor task parameters first) where
    name : Part → Part
    name = renamed (rising_places task first) first

    -- both in the same place behind the first part
    alike : name one ≡ name other → one ≡ other
    unfolding name
    alike same =
        same_part one.predicate one other predicate_is (renamed_apart task parameters first first_is one one_is other.places other_is.as_many (ap (λ (p : Part). p.places) same)) (ap (λ (p : Part). p.counted) same)

    behind : (more : List Part) → map name (put_in one more) ≡ map name (put_in other more) → one ≡ other
    unfolding name
    behind [] same = alike (heads (name one) (name other) [] [] same)
      where
        heads : (x y : Part) (xs ys : List Part) → x ∷ xs ≡ y ∷ ys → x ≡ y
        heads x y xs ys e = cc e
    behind (next ∷ more) same = by (nat_lt one.predicate next.predicate) (nat_lt other.predicate next.predicate) (ap (λ p. nat_lt p next.predicate) predicate_is) same (behind more)
      where
        by : (b c : Bool) → b ≡ c → map name (if b then one ∷ next ∷ more else next ∷ put_in one more) ≡ map name (if c then other ∷ next ∷ more else next ∷ put_in other more) →
            (map name (put_in one more) ≡ map name (put_in other more) → one ≡ other) → one ≡ other
        by true true e equal rest = alike (let is : name one ≡ name other = cc equal in is)
        by true false e equal rest = absurd (true≢false e)
        by false true e equal rest = absurd (true≢false (sym e))
        by false false e equal rest = rest (let is : map name (put_in one more) ≡ map name (put_in other more) = cc equal in is)

  -- both in front of the first part
  module _ (first : Part) (first_is : IsPartFor task parameters first) (more : List Part) where
    read_by : Part → ℕ → ℕ
    read_by named place = get_or first.places (position_or_len (nat_eq place) named.places) 0

    in_front : in_form task (one ∷ first ∷ more) ≡ in_form task (other ∷ first ∷ more) → one ≡ other
    unfolding read_by
    in_front same = same_part one.predicate one other predicate_is (same_at_each one.places other.places (one_is.as_many ∙ sym other_is.as_many) at) (ap (λ (p : Part). p.counted) heads)
      where
        heads : renamed (rising_places task one) one one ≡ renamed (rising_places task other) other other
        heads = cc same

        seconds : renamed (rising_places task one) one first ≡ renamed (rising_places task other) other first
        seconds = cc same

        one_rising : rising_places task one ≡ rising_places task other
        one_rising = sym (first_rises task parameters one one_is) ∙ ap (λ (p : Part). p.places) heads ∙ first_rises task parameters other other_is

        reads : map (read_by one) (rising_places task one) ≡ map (read_by other) (rising_places task one)
        reads = ap (λ (p : Part). p.places) seconds ∙ ap (map (read_by other)) (sym one_rising)

        at : (i : ℕ) → i < length one.places → get_or one.places i 0 ≡ get_or other.places i 0
        at i within =
            let place = get_or one.places i 0 in
            let in-one : Among place (rising_places task one) = in_rising task parameters one one_is place (among_at one.places i 0 within) in
            let in-other : Among place (rising_places task other) = subst (Among place) one_rising in-one in
            let found-one = found_first task parameters one one_is place in-one in
            let found-other = found_first task parameters other other_is place in-other in
            let many = first_is.as_many in
            let low-one = found-one.0 in
            let low-other = found-other.0 in
            let positions = same_place first.places 0 (position_or_len (nat_eq place) one.places) (position_or_len (nat_eq place) other.places) (part_once task parameters first first_is first first_is)
            (omega (arith, many, low-one)) (omega (arith, many, low-other)) (same_image (read_by one) (read_by other) (rising_places task one) reads place in-one) in
            let here = position_once one.places i (first_once task parameters one one_is) within in
            sym found-other.1 ∙ ap (λ n. get_or other.places n 0) (sym positions ∙ here)

    pub with_part_apart : in_form task (put_in one (first ∷ more)) ≡ in_form task (put_in other (first ∷ more)) → one ≡ other
    unfolding name
    with_part_apart = by (nat_lt one.predicate first.predicate) (nat_lt other.predicate first.predicate) (ap (λ p. nat_lt p first.predicate) predicate_is)
      where
        by : (b c : Bool) → b ≡ c → in_form task (if b then one ∷ first ∷ more else first ∷ put_in one more) ≡ in_form task (if c then other ∷ first ∷ more else first ∷ put_in other more) → one ≡ other
        by true true e same = in_front same
        by true false e same = absurd (true≢false e)
        by false true e same = absurd (true≢false (sym e))
        by false false e same = behind first first_is more (let tails : map (name first first_is) (put_in one more) ≡ map (name first first_is) (put_in other more) = cc same in tails)

-- ---- all extensions

pub is_lacked : (candidate : Candidate) (part : Part) → has_predicate candidate part.predicate ≡ false → Among part.predicate (predicates candidate.parts) → ⊥
is_lacked candidate part none there =
    let from = map_source (λ (other : Part). other.predicate) candidate.parts part.predicate there in
    true≢false (sym (any_passes (λ (other : Part). nat_eq other.predicate part.predicate) from.source candidate.parts from.among (eq-eqb from.source.predicate part.predicate from.gives)) ∙ none)

module _ (task : Normal) (candidate : Candidate) (formed : is_well_formed task candidate ≡ true) where
  facts : AreFormed task candidate.parameters candidate.parts
  facts = formed_facts task candidate formed

  is_new : ℕ → Bool
  is_new predicate = not (has_predicate candidate predicate)

  -- what a part has that may be added
  pub record IsNewPart (part : Part) : Type 0 where
    pub is : IsPartFor task candidate.parameters part
    pub new : Among part.predicate (predicates candidate.parts) → ⊥

  new_parts : List Part
  new_parts = flat_map (parts_of task candidate.parameters) (filter is_new (changing task))

  new_part : (part : Part) → Among part new_parts → IsNewPart part
  unfolding new_parts is_new
  new_part part there =
      let piece = flat_map_piece (parts_of task candidate.parameters) (filter is_new (changing task)) part there in
      let kept = filter_among is_new piece.source (changing task) piece.among in
      let facts = parts_facts task candidate.parameters piece.source part (changing_facts task piece.source kept.0) piece.inside in
      record { is = facts.0; new = is_lacked candidate part (ap (has_predicate candidate) facts.1 ∙ not-true (has_predicate candidate piece.source) kept.1) }

  once_new_parts : Once new_parts
  unfolding new_parts
  once_new_parts =
      once_flat_map (parts_of task candidate.parameters) (filter is_new (changing task)) (once_filter is_new (changing task) (once_changing task)) (λ predicate there. once_parts task candidate.parameters predicate)
      (λ x y part in-x in-y of-x of-y.
      let kept-x = filter_among is_new x (changing task) in-x in
      let kept-y = filter_among is_new y (changing task) in-y in
      sym (parts_facts task candidate.parameters x part (changing_facts task x kept-x.0) of-x).1 ∙ (parts_facts task candidate.parameters y part (changing_facts task y kept-y.0) of-y).1)

  extensions-are : extensions task candidate ≡ map (with_part task candidate) new_parts
  unfolding is_new new_parts
  extensions-are = refl

  pub lacks : (part : Part) → IsNewPart part → has_predicate candidate part.predicate ≡ false
  lacks part is =
      none_passes (λ (other : Part). nat_eq other.predicate part.predicate) candidate.parts (λ other there same.
      is.new (subst (λ p. Among p (predicates candidate.parts)) (eqb-true other.predicate part.predicate same) (among_map (λ (p : Part). p.predicate) other candidate.parts there)))

  -- the extension by a new part is listed
  pub extended : (part : Part) → IsNewPart part → Among (with_part task candidate part) (extensions task candidate)
  unfolding new_parts is_new
  extended part is = subst (Among (with_part task candidate part)) (sym extensions-are) (among_map (with_part task candidate) part new_parts listed)
    where
      listed : Among part new_parts
      listed =
          among_flat_map (parts_of task candidate.parameters) part.predicate part (filter is_new (changing task))
          (among_filter is_new part.predicate (changing task) (among_changing task part.predicate is.is.changes) (not_from_false (has_predicate candidate part.predicate) (lacks part is)))
          (part_listed task candidate.parameters part is.is)

  -- the part by which an extension is made
  pub record Extends (other : Candidate) : Type 0 where
    pub part : Part
    pub is : IsNewPart part
    pub gives : with_part task candidate part ≡ other

  pub extends : (other : Candidate) → Among other (extensions task candidate) → Extends other
  extends other there =
      let from = map_source (with_part task candidate) new_parts other (subst (Among other) extensions-are there) in
      record { part = from.source; is = new_part from.source from.among; gives = from.gives }

  pub extension_formed : (other : Candidate) → Among other (extensions task candidate) → is_well_formed task other ≡ true
  extension_formed other there =
      let from = extends other there in
      subst (λ c. is_well_formed task c ≡ true) from.gives (formed_test task (with_part task candidate from.part) (with_part_formed task candidate from.part facts from.is.is from.is.new))

  same_predicate : (one other : Part) → IsNewPart one → IsNewPart other → in_form task (put_in one candidate.parts) ≡ in_form task (put_in other candidate.parts) → one.predicate ≡ other.predicate
  same_predicate one other one_is other_is same =
      let kept = subst (Among one.predicate) (sym (form (put_in one candidate.parts)) ∙ ap predicates same ∙ form (put_in other candidate.parts)) (among_map (λ (part : Part). part.predicate) one (put_in one candidate.parts) (among_put one candidate.parts)) in
      let from = map_source (λ (part : Part). part.predicate) (put_in other candidate.parts) one.predicate kept in
      elim (put_among other candidate.parts from.source from.among) [
        | inl is ↦ sym from.gives ∙ sym (ap (λ (part : Part). part.predicate) is)
        | inr old ↦ absurd (one_is.new (subst (λ p. Among p (predicates candidate.parts)) from.gives (among_map (λ (part : Part). part.predicate) from.source candidate.parts old)))
      ]
    where
      form : (parts : List Part) → predicates (in_form task parts) ≡ predicates parts
      form [] = refl
      form (first ∷ more) = map-map (λ (part : Part). part.predicate) (renamed (rising_places task first) first) (first ∷ more)

  apart : (one other : Part) → IsNewPart one → IsNewPart other → with_part task candidate one ≡ with_part task candidate other → one ≡ other
  apart one other one_is other_is same =
      let forms = ap (λ (c : Candidate). c.parts) same in
      by candidate.parts facts forms (same_predicate one other one_is other_is forms)
    where
      by : (parts : List Part) → AreFormed task candidate.parameters parts → in_form task (put_in one parts) ≡ in_form task (put_in other parts) → one.predicate ≡ other.predicate → one ≡ other
      by [] formed forms predicate = absurd (true≢false (sym formed.named))
      by (first ∷ more) formed forms predicate = with_part_apart task candidate.parameters one other one_is.is other_is.is predicate first (formed.each first (inl refl)) more forms

  pub once_extensions : Once (extensions task candidate)
  once_extensions =
      subst Once (sym extensions-are) (once_map (with_part task candidate) new_parts (λ x y in-x in-y same. apart x y (new_part x in-x) (new_part y in-y) same) once_new_parts)

-- ---- how many parts

pub one_part_more : (task : Normal) (candidate other : Candidate) → Among other (extensions task candidate) → length other.parts ≡ suc (length candidate.parts)
one_part_more task candidate other there =
    let from = map_source (with_part task candidate) (flat_map (parts_of task candidate.parameters) (filter (λ predicate. not (has_predicate candidate predicate)) (changing task))) other there in
    ap (λ (c : Candidate). length c.parts) (sym from.gives) ∙ as_many (put_in from.source candidate.parts) ∙ one_more from.source candidate.parts
  where
    as_many : (parts : List Part) → length (in_form task parts) ≡ length parts
    as_many [] = refl
    as_many (first ∷ more) = length-map (first ∷ more) (renamed (rising_places task first) first)

    one_more : (part : Part) (parts : List Part) → length (put_in part parts) ≡ suc (length parts)
    one_more part [] = refl
    one_more part (first ∷ more) = by (nat_lt part.predicate first.predicate) (one_more part more)
      where
        by : (b : Bool) → length (put_in part more) ≡ suc (length more) → length (if b then part ∷ first ∷ more else first ∷ put_in part more) ≡ suc (suc (length more))
        by true rest = refl
        by false rest = ap (λ (n : ℕ). suc n) rest

-- a candidate has no more parts than there are predicates
pub few_parts : (task : Normal) (candidate : Candidate) → is_well_formed task candidate ≡ true → length candidate.parts ≤ length task.predicates
few_parts task candidate formed =
    let facts = formed_facts task candidate formed in
    let fewer = no_longer (predicates candidate.parts) (range_with_len 0 (length task.predicates)) (once_rising (predicates candidate.parts) facts.by_predicate) (λ predicate there.
    let from = map_source (λ (part : Part). part.predicate) candidate.parts predicate there in
    let below = subst (λ p. p < length task.predicates) from.gives (changing_below task from.source.predicate (facts.each from.source from.among).changes) in
    range_among 0 (length task.predicates) predicate (omega arith) (omega (arith, below))) in
    let many = length-map candidate.parts (λ (part : Part). part.predicate) in
    let all = length-range_with_len 0 (length task.predicates) in
    omega (arith, fewer, many, all)
