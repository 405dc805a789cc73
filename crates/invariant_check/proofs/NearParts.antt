-- The parts that matter at an add: those of the predicates that its schema mentions.
use Rattle.std.proofs.Common.{◌≡◌, ℕ, Bool, true, false, not, ◌&&◌, ◌||◌, cond, ◌⊎◌, inl, inr, List, [], ◌∷◌, ◌++◌, map, length, Option, Some, None, refl, sym, ap, ◌∙◌, subst}
use Rattle.std.specs.Prelude.{nat_eq, nat_lt, slice_get, zip, if◌then◌else◌}
use Rattle.std.specs.Cmp.Lexicographic.{pointwise}
use Rattle.std.specs.List.{filter, flat_map, list_all, list_any}
use Rattle.std.specs.Option.{option_map_or}
use Rattle.std.proofs.lemmas.Bool.{cases_Bool, true≢false, false_from_ne_true, eqb-true, eq-eqb, and_parts, and_from, or_left, or_right}
use Rattle.lists.proofs.Items.{Among, map_source, any_passes, any_map, same_any, same_all, among_which, slice_among, filter_yes, filter_no}
use Rattle.normal_task.specs.declared.task.EffectRow.{EffectRow}
use Rattle.normal_task.specs.declared.task.Literal.{Literal}
use Rattle.normal_task.specs.declared.task.Literal.TheVariants.{Holds, Equal}
use Rattle.normal_task.specs.declared.task.Normal.{Normal}
use Rattle.normal_task.specs.declared.task.Place.{Place}
use Rattle.normal_task.specs.declared.task.Place.TheVariants.{Object}
use Rattle.normal_task.specs.declared.task.Schema.{Schema}
use Rattle.normal_task.specs.Parts.{moved}
use Rattle.contradictions.specs.declared.types.Candidate.{Candidate}
use Rattle.contradictions.specs.declared.types.Part.{Part}
use Rattle.contradictions.specs.Candidates.{at_positions}
use Rattle.contradictions.specs.Contradictory.{is_same_place, in_one_class, all_pairs, standing, are_same_terms, is_denied_by, parts_a_class, has_no_object, are_two_objects, is_of_part, is_of_instance, are_two_of_instance, has_contradiction, is_contradictory}
use Rattle.invariant_check.specs.Extensions.{put_in, renamed, rising_places, in_form, with_part}
use Rattle.invariant_check.specs.declared.types.AddPlace.{AddPlace}
use Rattle.invariant_check.specs.Accepted.{instance_of, denied, required, is_listed, fittings, row_with, ranges_with, added_beside, apart_from, never_restores, balances, has_balance}
use Rattle.invariant_check.specs.Repairs.{balances_row, balances_add}
use Rattle.invariant_check.specs.Beside.{is_on, row_mentions, mentions, near_parts, near_schema, StandsFor}

-- ---- candidates that pass the same tests of parts of some predicates

-- the two have the same of the parts that matter
abbrev AreAlike : (ℕ → Bool) → Candidate → Candidate → Type 0
AreAlike matters one other = (test : Part → Bool) → ((part : Part) → matters part.predicate ≡ false → test part ≡ false) → list_any test one.parts ≡ list_any test other.parts

-- the literal is of such a predicate
abbrev Matters : (ℕ → Bool) → Literal → Type 0
Matters matters literal = (predicate : ℕ) → is_on predicate literal ≡ true → matters predicate ≡ true

module _ (matters : ℕ → Bool) (one other : Candidate) (alike : AreAlike matters one other) where
  -- a test of the parts of a predicate that matters
  of_predicate : (predicate : ℕ) → matters predicate ≡ true → (test : Part → Bool) → list_any (λ part. nat_eq part.predicate predicate && test part) one.parts ≡ list_any (λ part. nat_eq part.predicate predicate && test part) other.parts
  of_predicate predicate does test = alike (λ part. nat_eq part.predicate predicate && test part) (λ part not-it. ap (λ b. b && test part) (apart part not-it))
    where
      apart : (part : Part) → matters part.predicate ≡ false → nat_eq part.predicate predicate ≡ false
      apart part not-it = false_from_ne_true (nat_eq part.predicate predicate) (λ same. true≢false (sym does ∙ ap matters (sym (eqb-true part.predicate predicate same)) ∙ not-it))

  two_alike : (same : Place → Place → Bool) (instance : List Place) (x y : Literal) → Matters matters x → Matters matters y → are_two_of_instance same one instance x y ≡ are_two_of_instance same other instance x y
  two_alike same instance (Holds positive predicate places) (Holds positive' predicate' places') mx my =
      let first = of_predicate predicate (mx predicate (eq-eqb predicate predicate refl)) (λ part. are_same_terms same (at_positions (Object 0) part.places places) instance) in
      let second = of_predicate predicate' (my predicate' (eq-eqb predicate' predicate' refl)) (λ part. are_same_terms same (at_positions (Object 0) part.places places') instance) in
      ap (λ b. positive && positive' && not (nat_eq predicate predicate') && b && is_of_instance same one instance predicate' places') first
      ∙ ap (λ b. positive && positive' && not (nat_eq predicate predicate') && is_of_instance same other instance predicate places && b) second
  two_alike same instance (Holds positive predicate places) (Equal positive' left right) mx my = refl
  two_alike same instance (Equal positive left right) y mx my = refl

  contradictory_alike : (ranges : List (List ℕ)) (literals : List Literal) (pairs : List (Place × Place)) (instance : List Place) → ((literal : Literal) → Among literal literals → Matters matters literal) →
      is_contradictory one ranges literals pairs instance ≡ is_contradictory other ranges literals pairs instance
  contradictory_alike ranges literals pairs instance each =
      ap (λ atoms. denied' || two || parted || atoms || bare)
      (same_any (λ x. list_any (are_two_of_instance same one instance x) literals) (λ x. list_any (are_two_of_instance same other instance x) literals) literals (λ x in-x.
      same_any (are_two_of_instance same one instance x) (are_two_of_instance same other instance x) literals (λ y in-y. two_alike same instance x y (each x in-x) (each y in-y))))
    where
      same : Place → Place → Bool
      same = in_one_class (all_pairs literals pairs)

      terms : List Place
      terms = standing literals pairs instance

      denied' : Bool
      denied' = list_any (λ literal. list_any (is_denied_by same literal) literals) literals

      two : Bool
      two = list_any (λ x. list_any (λ y. are_two_objects x y && same x y) terms) terms

      parted : Bool
      parted = list_any (parts_a_class same) literals

      bare : Bool
      bare = list_any (has_no_object same ranges terms) terms

-- ---- what a schema mentions matters

in_condition : (schema : Schema) (literal : Literal) → Among literal schema.condition → Matters (mentions schema) literal
in_condition schema literal there predicate is = or_left (list_any (is_on predicate) schema.condition) (list_any (row_mentions predicate) schema.effects) (any_passes (is_on predicate) literal schema.condition there is)

by_row : (schema : Schema) (row : EffectRow) (predicate : ℕ) → Among row schema.effects → row_mentions predicate row ≡ true → mentions schema predicate ≡ true
by_row schema row predicate there is = or_right (list_any (is_on predicate) schema.condition) (list_any (row_mentions predicate) schema.effects) (any_passes (row_mentions predicate) row schema.effects there is)

in_row : (schema : Schema) (row : EffectRow) → Among row schema.effects → (literal : Literal) → Among literal row.condition → Matters (mentions schema) literal
in_row schema row there literal in' predicate is =
    by_row schema row predicate there (or_right (nat_eq predicate row.predicate) (list_any (is_on predicate) row.condition) (any_passes (is_on predicate) literal row.condition in' is))

of_row : (schema : Schema) (row : EffectRow) → Among row schema.effects → mentions schema row.predicate ≡ true
of_row schema row there = by_row schema row row.predicate there (or_left (nat_eq row.predicate row.predicate) (list_any (is_on row.predicate) row.condition) (eq-eqb row.predicate row.predicate refl))

moved_on : (from by' predicate : ℕ) (literal : Literal) → is_on predicate (moved from by' literal) ≡ is_on predicate literal
moved_on from by' predicate (Holds positive other places) = refl
moved_on from by' predicate (Equal positive left right) = refl

-- ---- the balance of an add effect

module _ (task : Normal) (schema : Schema) (one other : Candidate) (alike : AreAlike (mentions schema) one other) (row : EffectRow) (row_in : Among row schema.effects) where
  restored_alike : (part : Part) (d a : EffectRow) → Among a schema.effects → never_restores one schema part row d (apart_from schema row a) ≡ never_restores other schema part row d (apart_from schema row a)
  restored_alike part d a there =
      ap (λ b. not a.adds || not (nat_eq a.predicate d.predicate) || b)
      (contradictory_alike (mentions schema) one other alike (ranges_with schema row g) (added_beside schema row g) (zip g.places d.places) (instance_of part row) each)
    where
      g : EffectRow
      g = apart_from schema row a

      each : (literal : Literal) → Among literal (added_beside schema row g) → Matters (mentions schema) literal
      each literal in' =
          elim (among_which literal (required schema row) (g.condition ++ denied row ∷ []) in') [
            | inl needed ↦
                elim (among_which literal schema.condition row.condition needed) [
                  | inl before ↦ in_condition schema literal before
                  | inr own ↦ in_row schema row row_in literal own
                ]
            | inr beside ↦
                elim (among_which literal g.condition (denied row ∷ []) beside) [
                  | inl of-g ↦
                      λ predicate is.
                      let from = map_source (moved (length schema.parameters) (length row.variables)) a.condition literal of-g in
                      in_row schema a there from.source from.among predicate (sym (moved_on (length schema.parameters) (length row.variables) predicate from.source) ∙ ap (is_on predicate) from.gives ∙ is)
                  | inr last ↦
                      λ predicate is.
                      elim last [
                        | inl here ↦ subst (λ p. mentions schema p ≡ true) (sym (eqb-true predicate row.predicate (ap (is_on predicate) here ∙ is))) (of_row schema row row_in)
                        | inr none ↦ absurd none
                      ]
                ]
          ]

  given_alike : (part : Part) (d : EffectRow) → Among d schema.effects → (given : List Place) → balances one schema part row (row_with schema d given) ≡ balances other schema part row (row_with schema d given)
  given_alike part d there given =
      let gone = row_with schema d given in
      ap (λ b. not d.adds && b && is_listed (required schema row) (Holds true d.predicate gone.places) && list_all (is_listed (required schema row)) gone.condition
      && list_all (λ a. never_restores one schema part row gone (apart_from schema row a)) schema.effects)
      (of_predicate (mentions schema) one other alike d.predicate (of_row schema d there) (λ part'. pointwise is_same_place (instance_of part' gone) (instance_of part row)))
      ∙ ap (λ b. not d.adds && list_any (λ part'. nat_eq part'.predicate d.predicate && pointwise is_same_place (instance_of part' gone) (instance_of part row)) other.parts && is_listed (required schema row) (Holds true d.predicate gone.places)
      && list_all (is_listed (required schema row)) gone.condition && b)
      (same_all (λ a. never_restores one schema part row gone (apart_from schema row a)) (λ a. never_restores other schema part row gone (apart_from schema row a)) schema.effects (λ a in'. restored_alike part gone a in'))

  balance_alike : (part : Part) → has_balance task one schema part row ≡ has_balance task other schema part row
  balance_alike part =
      same_any (λ d. list_any (λ given. balances one schema part row (row_with schema d given)) (fittings task (schema.parameters ++ row.variables) d))
      (λ d. list_any (λ given. balances other schema part row (row_with schema d given)) (fittings task (schema.parameters ++ row.variables) d)) schema.effects (λ d there.
      same_any (λ given. balances one schema part row (row_with schema d given)) (λ given. balances other schema part row (row_with schema d given)) (fittings task (schema.parameters ++ row.variables) d) (λ given in'. given_alike part d there given))

  pub row_alike : balances_row task one schema row ≡ balances_row task other schema row
  row_alike =
      same_any (λ (part : Part). nat_eq part.predicate row.predicate && has_balance task one schema part row) (λ (part : Part). nat_eq part.predicate row.predicate && has_balance task other schema part row) one.parts
      (λ part there. ap (λ b. nat_eq part.predicate row.predicate && b) (balance_alike part))
      ∙ of_predicate (mentions schema) one other alike row.predicate (of_row schema row row_in) (λ part. has_balance task other schema part row)

-- ---- one part more

any_put : (test : Part → Bool) (part : Part) (parts : List Part) → list_any test (put_in part parts) ≡ (test part || list_any test parts)
any_put test part [] = refl
any_put test part (first ∷ more) = by (nat_lt part.predicate first.predicate) (any_put test part more)
  where
    turned : (a b c : Bool) → (a || (b || c)) ≡ (b || (a || c))
    turned true true c = refl
    turned true false c = refl
    turned false true c = refl
    turned false false c = refl

    by : (b : Bool) → list_any test (put_in part more) ≡ (test part || list_any test more) → list_any test (if b then part ∷ first ∷ more else first ∷ put_in part more) ≡ (test part || (test first || list_any test more))
    by true rest = refl
    by false rest = ap (λ b. test first || b) rest ∙ turned (test first) (test part) (list_any test more)

-- what of a list passes a test is what is left of it, where all that passes is left
any_left : (keeps test : Part → Bool) → ((part : Part) → keeps part ≡ false → test part ≡ false) → (parts : List Part) → list_any test (filter keeps parts) ≡ list_any test parts
any_left keeps test none [] = refl
any_left keeps test none (part ∷ parts) =
    elim (cases_Bool (keeps part)) [
      | inl is ↦ ap (list_any test) (filter_yes keeps part parts is) ∙ ap (λ b. test part || b) (any_left keeps test none parts)
      | inr left-out ↦ ap (list_any test) (filter_no keeps part parts left-out) ∙ any_left keeps test none parts ∙ sym (ap (λ b. b || list_any test parts) (none part left-out))
    ]

module _ (task : Normal) (schema : Schema) (part : Part) where
  -- parts that begin alike and pass the same tests are so in form
  form_alike : (first : Part) (xs ys : List Part) → ((test : Part → Bool) → ((p : Part) → mentions schema p.predicate ≡ false → test p ≡ false) → list_any test (first ∷ xs) ≡ list_any test (first ∷ ys)) →
      (test : Part → Bool) → ((p : Part) → mentions schema p.predicate ≡ false → test p ≡ false) → list_any test (in_form task (first ∷ xs)) ≡ list_any test (in_form task (first ∷ ys))
  form_alike first xs ys alike test none =
      let name = renamed (rising_places task first) first in
      any_map test name (first ∷ xs) ∙ alike (λ p. test (name p)) (λ p not-it. none (name p) not-it) ∙ sym (any_map test name (first ∷ ys))

  put_alike : (parts : List Part) (test : Part → Bool) → ((p : Part) → mentions schema p.predicate ≡ false → test p ≡ false) →
      list_any test (in_form task (put_in part (near_parts schema parts))) ≡ list_any test (in_form task (put_in part parts))
  put_alike [] test none = refl
  put_alike (first ∷ more) test none = by (nat_lt part.predicate first.predicate)
    where
      keeps : Part → Bool
      keeps p = mentions schema p.predicate

      by : (b : Bool) → list_any test (in_form task (if b then part ∷ first ∷ filter keeps more else first ∷ put_in part (filter keeps more)))
          ≡ list_any test (in_form task (if b then part ∷ first ∷ more else first ∷ put_in part more))
      by true = form_alike part (first ∷ filter keeps more) (first ∷ more) (λ t no. ap (λ b. t part || (t first || b)) (any_left keeps t no more)) test none
      by false =
          form_alike first (put_in part (filter keeps more)) (put_in part more) (λ t no.
          ap (λ b. t first || b) (any_put t part (filter keeps more) ∙ ap (λ b. t part || b) (any_left keeps t no more) ∙ sym (any_put t part more))) test none

pub near_stands : (task : Normal) (place : AddPlace) (candidate : Candidate) (schema : Schema) → slice_get task.schemas place.schema ≡ Some schema → StandsFor task place (near_schema candidate schema) candidate
near_stands task place candidate schema at part =
    let by_schema = λ (c : Candidate). ap (λ s. option_map_or (λ (sc : Schema). option_map_or (balances_row task c sc) (slice_get sc.effects place.effect) false) s false) at in
    by_schema (with_part task (near_schema candidate schema) part) ∙ by_row' (slice_get schema.effects place.effect) refl ∙ sym (by_schema (with_part task candidate part))
  where
    alike : AreAlike (mentions schema) (with_part task (near_schema candidate schema) part) (with_part task candidate part)
    alike test none = put_alike task schema part candidate.parts test none

    by_row' : (row : Option EffectRow) → slice_get schema.effects place.effect ≡ row → option_map_or (balances_row task (with_part task (near_schema candidate schema) part) schema) row false ≡ option_map_or (balances_row task (with_part task candidate part) schema) row false
    by_row' None is = refl
    by_row' (Some row) is = row_alike task schema (with_part task (near_schema candidate schema) part) (with_part task candidate part) alike row (slice_among schema.effects place.effect row is)
