-- Where parameters are named such that the first part's places rise, there is one way to name them. So the extensions of a candidate are all that have one part more.
use Rattle.std.proofs.Common.{◌≡◌, ℕ, ◌<◌, true, inl, inr, List, [], ◌∷◌, map, length, get_or, refl, sym, ap, ◌∙◌, subst, arith}
use Rattle.std.specs.Prelude.{nat_eq, nat_lt, ◌↔◌}
use Rattle.std.specs.Cmp.{nat_eq_equiv}
use Rattle.std.specs.List.{Contains, range_with_len, position_or_len}
use Rattle.std.proofs.lemmas.Bool.{eqb-true, ltb-true, lt-ltb}
use Rattle.std.proofs.lemmas.List.{length-map}
use Rattle.std.proofs.lemmas.List.FromFn.{length-range_with_len, length-map-range_with_len, get_or-map-range_with_len}
use Rattle.std.proofs.lemmas.Simd.{map-map}
use Rattle.lists.proofs.Items.{Among, among_at, among_contains, contains_among, among_map, map_source, each_passes, all_passes, same_map, map_itself}
use Rattle.lists.proofs.NoRepeats.{Once, once_map, once_range, among_range, range_among, all_there, position_once, same_at_each}
use Rattle.normal_task.specs.declared.task.Normal.{Normal}
use Rattle.normal_task.specs.Lawful.{is_rising}
use Rattle.contradictions.specs.declared.types.Candidate.{Candidate}
use Rattle.contradictions.specs.declared.types.Part.{Part}
use Rattle.contradictions.specs.Candidates.{at_positions}
use Rattle.invariant_check.specs.Extensions.{part_at, put_in, renamed, rising_places, in_form, with_part, one_predicate, extensions}
use Rattle.invariant_check.specs.Names.{of_parts, IsNaming, named, HasOneMore, OnePredicateIsAll, ExtensionsAreAll, SameAreEqual}
use Rattle.invariant_check.specs.WellFormed.{is_named_by_first, is_well_formed}
use Rattle.normal_task.proofs.RisingLists.{differ_once, once_differ, same_rising}
use Rattle.invariant_check.proofs.FormedParts.{IsPartFor, part_facts, part_test, AreFormed, predicates, formed_facts}
use Rattle.invariant_check.proofs.OnePredicate.{one_predicate_formed, one_part, one_listed}
use Rattle.invariant_check.proofs.NamedAnew.{first_once, in_rising, rising-once, rising-many, found_first, rising_is}
use Rattle.invariant_check.proofs.Extended.{put_among, among_put, kept_put, rising_put, extension_formed, IsNewPart, lacks, is_lacked, extended, extends}

-- ---- names

module _ (parameters : ℕ) (names : List ℕ) (is : IsNaming parameters names) where
  names_below : (name : ℕ) → Among name names → name < parameters
  names_below name there = ltb-true name parameters (all_passes (λ n. nat_lt n parameters) name names there is.parameters_only)

  all_named : (name : ℕ) → name < parameters → Among name names
  all_named name below =
      let many = is.as_many in
      let all = length-range_with_len 0 parameters in
      all_there names (range_with_len 0 parameters) (once_differ nat_eq nat_eq_equiv.refl names is.once) (λ n there. let low = names_below n there in range_among 0 parameters n (omega arith) (omega (arith, low)))
      (omega (arith, many, all)) name (range_among 0 parameters name (omega arith) (omega (arith, below)))

naming_from : (parameters : ℕ) (names : List ℕ) → length names ≡ parameters → ((name : ℕ) → Among name names → name < parameters) → Once names → IsNaming parameters names
naming_from parameters names many below once = record {
  as_many = many;
  parameters_only = each_passes (λ n. nat_lt n parameters) names (λ name there. lt-ltb name parameters (below name there));
  once = differ_once nat_eq (λ x y same. eqb-true x y same) names once;
}

predicates_named : (names : List ℕ) (parts : List Part) → predicates (map (named names) parts) ≡ predicates parts
predicates_named names [] = refl
predicates_named names (part ∷ parts) = ap (λ l. part.predicate ∷ l) (predicates_named names parts)

-- ---- the names that the first part gives

module _ (task : Normal) (parameters : ℕ) (first : Part) (is : IsPartFor task parameters first) where
  -- the parameter that stands at the place
  parameter_at : ℕ → ℕ
  parameter_at place = position_or_len (nat_eq place) first.places

  names_of_first : List ℕ
  names_of_first = map parameter_at (rising_places task first)

  is_naming_of_first : IsNaming parameters names_of_first
  unfolding parameter_at names_of_first
  is_naming_of_first =
      naming_from parameters names_of_first (length-map (rising_places task first) parameter_at ∙ rising-many task parameters first is)
      (λ name there. let from = map_source parameter_at (rising_places task first) name there in subst (λ n. n < parameters) from.gives (found_first task parameters first is from.source from.among).0)
      (once_map parameter_at (rising_places task first) (λ x y in-x in-y same.
      sym (found_first task parameters first is x in-x).1 ∙ ap (λ n. get_or first.places n 0) same ∙ (found_first task parameters first is y in-y).1) (rising-once task parameters first is))

  renamed_is_named : (part : Part) → renamed (rising_places task first) first part ≡ named names_of_first part
  unfolding parameter_at names_of_first
  renamed_is_named part = ap (part_at part.predicate part.counted) (sym (map-map (λ n. get_or part.places n 0) parameter_at (rising_places task first)))

  -- ---- names by which the first part's places rise

  module _ (names : List ℕ) (naming : IsNaming parameters names) (rises : is_rising (at_positions 0 names first.places) ≡ true) where
    rising_are : rising_places task first ≡ at_positions 0 names first.places
    rising_are =
        same_rising (λ (n : ℕ). n) (rising_places task first) (at_positions 0 names first.places) (subst (λ l. is_rising l ≡ true) (sym (map_itself (rising_places task first))) (rising_is task parameters first is))
        (subst (λ l. is_rising l ≡ true) (sym (map_itself (at_positions 0 names first.places))) rises)
        (λ place there.
        let at = found_first task parameters first is place there in
        subst (λ p. Among p (at_positions 0 names first.places)) at.1 (among_map (λ n. get_or first.places n 0) (position_or_len (nat_eq place) first.places) names (all_named parameters names naming (position_or_len (nat_eq place) first.places) at.0)))
        (λ place there.
        let from = map_source (λ n. get_or first.places n 0) names place there in
        let below = names_below parameters names naming from.source from.among in
        let many = is.as_many in
        in_rising task parameters first is place (subst (λ p. Among p first.places) from.gives (among_at first.places from.source 0 (omega (arith, below, many)))))

    named_as_renamed : (part : Part) → renamed (rising_places task first) first part ≡ named names part
    named_as_renamed part =
        ap (part_at part.predicate part.counted)
        (ap (map (λ place. get_or part.places (position_or_len (nat_eq place) first.places) 0)) rising_are
        ∙ map-map (λ place. get_or part.places (position_or_len (nat_eq place) first.places) 0) (λ n. get_or first.places n 0) names
        ∙ same_map (λ n. get_or part.places (position_or_len (nat_eq (get_or first.places n 0)) first.places) 0) (λ n. get_or part.places n 0) names (λ n there.
        let below = names_below parameters names naming n there in
        let many = is.as_many in
        ap (λ p. get_or part.places p 0) (position_once first.places n (first_once task parameters first is) (omega (arith, below, many)))))

-- parts in form are those that are named such
form_is : (task : Normal) (parameters : ℕ) (parts : List Part) (names : List ℕ) → ((part : Part) → Among part parts → IsPartFor task parameters part) → IsNaming parameters names →
    is_named_by_first (map (named names) parts) ≡ true → in_form task parts ≡ map (named names) parts
form_is task parameters [] names each naming rises = refl
form_is task parameters (first ∷ more) names each naming rises =
    same_map (renamed (rising_places task first) first) (named names) (first ∷ more) (λ part there. named_as_renamed task parameters first (each first (inl refl)) names naming rises part)

-- ---- candidates that are the same

-- the parts of a well-formed candidate are those in form
own_form : (task : Normal) (parameters : ℕ) (parts : List Part) → AreFormed task parameters parts → in_form task parts ≡ parts
own_form task parameters parts facts =
    form_is task parameters parts (range_with_len 0 parameters) facts.each naming (subst (λ l. is_named_by_first l ≡ true) (sym same) facts.named) ∙ same
  where
    naming : IsNaming parameters (range_with_len 0 parameters)
    naming = naming_from parameters (range_with_len 0 parameters) (length-range_with_len 0 parameters) (λ name there. let below = (among_range 0 parameters name there).1 in omega (arith, below)) (once_range 0 parameters)

    same : map (named (range_with_len 0 parameters)) parts ≡ parts
    same = same_map (named (range_with_len 0 parameters)) (λ (part : Part). part) parts (λ part there. ap (part_at part.predicate part.counted) (all_read part.places (facts.each part there).as_many)) ∙ map_itself parts
      where
        all_read : (places : List ℕ) → length places ≡ parameters → at_positions 0 (range_with_len 0 parameters) places ≡ places
        all_read places many = ap (λ n. at_positions 0 (range_with_len 0 n) places) (sym many) ∙ same_at_each (at_positions 0 (range_with_len 0 (length places)) places) places (length-map-range_with_len (λ n. get_or places n 0) 0 (length places))
            (λ i within. let size = length-map-range_with_len (λ n. get_or places n 0) 0 (length places) in get_or-map-range_with_len (λ n. get_or places n 0) 0 (length places) i i 0 (omega (arith, within, size)) (omega arith))

-- where such parts are those of a well-formed candidate, they are equal to them
in_form_is : (task : Normal) (parameters : ℕ) (parts : List Part) (other : Candidate) → ((part : Part) → Among part parts → IsPartFor task parameters part) → is_rising (predicates parts) ≡ true →
    AreFormed task other.parameters other.parts → (names : List ℕ) → IsNaming parameters names → ((part : Part) → Contains other.parts part ↔ Among part (map (named names) parts)) → in_form task parts ≡ other.parts
in_form_is task parameters parts other each rises formed names naming same =
    let equal : other.parts ≡ map (named names) parts =
    same_rising (λ (part : Part). part.predicate) other.parts (map (named names) parts) formed.by_predicate (ap is_rising (predicates_named names parts) ∙ rises) (λ part there. (same part).0 (contains_among other.parts part there))
    (λ part there. among_contains other.parts part ((same part).1 there)) in
    form_is task parameters parts names each naming (subst (λ l. is_named_by_first l ≡ true) equal formed.named) ∙ sym equal

pub same_are_equal : SameAreEqual
same_are_equal task candidate other formed formed' same =
    let facts = formed_facts task candidate formed in
    let parts =
    sym (own_form task candidate.parameters candidate.parts facts)
    ∙ in_form_is task candidate.parameters candidate.parts other facts.each facts.by_predicate (formed_facts task other formed') same.names same.is_naming (λ part.
    let is = same.parts part in
    (λ there. among_contains (map (named same.names) candidate.parts) part (is.0 there), λ there. is.1 (contains_among (map (named same.names) candidate.parts) part there))) in
    ap (of_parts candidate.parameters) parts ∙ ap (λ n. of_parts n other.parts) (sym same.parameters)

-- ---- all that are listed

pub one_predicate_is_all : OnePredicateIsAll
one_predicate_is_all task candidate = (
  λ there. let in' = among_contains (one_predicate task) candidate there in (one_predicate_formed task candidate in', one_part task candidate in'),
  λ is. contains_among (one_predicate task) candidate (one_listed task candidate is.0 is.1),
)

-- some names give the parts in form
record Form (task : Normal) (parameters : ℕ) (parts : List Part) : Type 0 where
  names : List ℕ
  naming : IsNaming parameters names
  is : in_form task parts ≡ map (named names) parts

some_form : (task : Normal) (parameters : ℕ) (parts : List Part) → ((part : Part) → Among part parts → IsPartFor task parameters part) → (some : Part) → Among some parts → Form task parameters parts
some_form task parameters [] each some none = absurd none
some_form task parameters (first ∷ more) each some there =
    let is = each first (inl refl) in
    record {
      names = names_of_first task parameters first is;
      naming = is_naming_of_first task parameters first is;
      is = same_map (renamed (rising_places task first) first) (named (names_of_first task parameters first is)) (first ∷ more) (λ part in'. renamed_is_named task parameters first is part);
    }

module _ (task : Normal) (candidate : Candidate) (formed : is_well_formed task candidate ≡ true) where
  facts : AreFormed task candidate.parameters candidate.parts
  facts = formed_facts task candidate formed

  each_put : (part : Part) → IsPartFor task candidate.parameters part → (other : Part) → Among other (put_in part candidate.parts) → IsPartFor task candidate.parameters other
  each_put part is other there = elim (put_among part candidate.parts other there) [ inl same ↦ subst (IsPartFor task candidate.parameters) same is | inr old ↦ facts.each other old ]

  has_one_more : (part : Part) → IsNewPart task candidate formed part → HasOneMore task candidate (with_part task candidate part)
  has_one_more part is =
      let form = some_form task candidate.parameters (put_in part candidate.parts) (each_put part is.is) part (among_put part candidate.parts) in
      record {
        part = part;
        is_part = part_test task candidate.parameters part is.is;
        new = lacks task candidate formed part is;
        same = record {
          parameters = refl;
          names = form.names;
          is_naming = form.naming;
          parts = λ other. (
            λ there.
                let from = map_source (named form.names) (put_in part candidate.parts) other (subst (Among other) form.is (among_contains (in_form task (put_in part candidate.parts)) other there)) in
                contains_among (map (named form.names) (part ∷ candidate.parts)) other
                (subst (λ (p : Part). Among p (map (named form.names) (part ∷ candidate.parts))) from.gives (among_map (named form.names) from.source (part ∷ candidate.parts) (put_among part candidate.parts from.source from.among))),
            λ there.
                let from = map_source (named form.names) (part ∷ candidate.parts) other (among_contains (map (named form.names) (part ∷ candidate.parts)) other there) in
                contains_among (in_form task (put_in part candidate.parts)) other
                (subst (Among other) (sym form.is)
                (subst (λ (p : Part). Among p (map (named form.names) (put_in part candidate.parts))) from.gives (among_map (named form.names) from.source (put_in part candidate.parts) (kept_put part candidate.parts from.source from.among)))),
          );
        };
      }

  listed : (other : Candidate) → is_well_formed task other ≡ true → HasOneMore task candidate other → Among other (extensions task candidate)
  listed other formed' more =
      let part = more.part in
      let is = part_facts task candidate.parameters part more.is_part in
      let new = is_lacked candidate part more.new in
      let names = more.same.names in
      let parts =
      in_form_is task candidate.parameters (put_in part candidate.parts) other (each_put part is) (rising_put part candidate.parts new facts.by_predicate) (formed_facts task other formed') names more.same.is_naming
      (λ p. (
        λ there.
            let from = map_source (named names) (part ∷ candidate.parts) p (among_contains (map (named names) (part ∷ candidate.parts)) p ((more.same.parts p).0 there)) in
            subst (λ (o : Part). Among o (map (named names) (put_in part candidate.parts))) from.gives (among_map (named names) from.source (put_in part candidate.parts) (kept_put part candidate.parts from.source from.among)),
        λ there.
            let from = map_source (named names) (put_in part candidate.parts) p there in
            (more.same.parts p).1 (contains_among (map (named names) (part ∷ candidate.parts)) p
            (subst (λ (o : Part). Among o (map (named names) (part ∷ candidate.parts))) from.gives (among_map (named names) from.source (part ∷ candidate.parts) (put_among part candidate.parts from.source from.among)))),
      )) in
      subst (λ c. Among c (extensions task candidate)) (ap (of_parts candidate.parameters) parts ∙ ap (λ n. of_parts n other.parts) (sym more.same.parameters))
      (extended task candidate formed part (record { is = is; new = new }))

pub extensions_are_all : ExtensionsAreAll
extensions_are_all task candidate formed other = (
  λ there.
      let in' = among_contains (extensions task candidate) other there in
      let from = extends task candidate formed other in' in
      (extension_formed task candidate formed other in', subst (HasOneMore task candidate) from.gives (has_one_more task candidate formed from.part from.is)),
  λ is. contains_among (extensions task candidate) other (listed task candidate formed other is.0 is.1),
)
