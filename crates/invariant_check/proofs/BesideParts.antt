-- Where the repairs of a candidate are looked for: among the predicates that the schema of the add deletes, unless a delete effect on a predicate of the candidate itself may balance the add.
use Rattle.std.proofs.Common.{◌≡◌, ℕ, Bool, true, false, not, ◌&&◌, ◌||◌, cond, ◌⊎◌, inl, inr, List, [], ◌∷◌, ◌++◌, map, Option, Some, None, refl, sym, ap, ◌∙◌, subst}
use Rattle.std.specs.Prelude.{nat_eq, slice_get}
use Rattle.std.specs.Cmp.Lexicographic.{pointwise}
use Rattle.std.specs.List.{Contains, filter, flat_map, list_all, list_any}
use Rattle.std.specs.List.Sorted.{IsStrictlyIncreasing}
use Rattle.std.specs.Option.{option_map_or}
use Rattle.std.proofs.lemmas.Bool.{cases_Bool, true≢false, false_from_ne_true, eqb-true, eq-eqb, and_parts, and_from, or_cases, or_left, or_right}
use Rattle.std.proofs.lemmas.List.{map-append}
use Rattle.std.proofs.lemmas.List.Elements.{filter-append}
use Rattle.std.proofs.lemmas.List.Folds.{list_any-append}
use Rattle.std.proofs.lemmas.List.Kept.{IsStrictlyIncreasing-filter}
use Rattle.std.specs.List.{range_with_len}
use Rattle.lists.proofs.Items.{Among, among_contains, contains_among, among_map, map_source, any_passes, none_passes, passing, among_filter, filter_among, filter_no}
use Rattle.lists.proofs.Members.{any_member, member_any, filter_none}
use Rattle.lists.proofs.Ordered.{range_increasing}
use Rattle.normal_task.specs.declared.task.EffectRow.{EffectRow}
use Rattle.normal_task.specs.declared.task.Literal.{Literal}
use Rattle.normal_task.specs.declared.task.Literal.TheVariants.{Holds, Equal}
use Rattle.normal_task.specs.declared.task.Normal.{Normal}
use Rattle.normal_task.specs.declared.task.Place.{Place}
use Rattle.normal_task.specs.declared.task.Schema.{Schema}
use Rattle.contradictions.specs.declared.types.Candidate.{Candidate}
use Rattle.contradictions.specs.declared.types.Part.{Part}
use Rattle.contradictions.specs.Contradictory.{is_same_place}
use Rattle.invariant_check.specs.Extensions.{is_changing, changing, has_predicate, parts_of, put_in, renamed, rising_places, in_form, with_part}
use Rattle.invariant_check.specs.declared.types.AddPlace.{AddPlace}
use Rattle.invariant_check.specs.Accepted.{instance_of, required, is_same_literal, is_listed, fittings, row_with, never_restores, apart_from, balances, has_balance}
use Rattle.invariant_check.specs.Repairs.{balances_row, balances_add, repairs_at}
use Rattle.invariant_check.specs.Beside.{others, repairs_among, deletes_of, deletes, needs, is_own_delete, may_be_balanced}
use Rattle.invariant_check.proofs.OnePredicate.{changing_facts, among_changing}
use Rattle.invariant_check.proofs.PartsOf.{parts_facts}
use Rattle.invariant_check.proofs.Extended.{put_among}

-- ---- the parts of a candidate with one part more

form_source : (task : Normal) (parts : List Part) (other : Part) → Among other (in_form task parts) → (part : Part) × Among part parts × (part.predicate ≡ other.predicate)
form_source task [] other none = absurd none
form_source task (first ∷ more) other there =
    let from = map_source (renamed (rising_places task first) first) (first ∷ more) other there in
    (from.source, from.among, ap (λ (p : Part). p.predicate) from.gives)

-- each is of the new predicate, or of one of the candidate's
own_or_new : (task : Normal) (candidate : Candidate) (part other : Part) → Among other (with_part task candidate part).parts → (part.predicate ≡ other.predicate) ⊎ (has_predicate candidate other.predicate ≡ true)
own_or_new task candidate part other there =
    let from = form_source task (put_in part candidate.parts) other there in
    elim (put_among part candidate.parts from.0 from.1) [
      | inl new ↦ inl (ap (λ (p : Part). p.predicate) new ∙ from.2)
      | inr old ↦ inr (any_passes (λ (p : Part). nat_eq p.predicate other.predicate) from.0 candidate.parts old (eq-eqb from.0.predicate other.predicate from.2))
    ]

-- ---- what must be true

needed : (predicate : ℕ) (places : List Place) (literals : List Literal) → is_listed literals (Holds true predicate places) ≡ true → list_any (needs predicate) literals ≡ true
needed predicate places literals is =
    let found = passing (is_same_literal (Holds true predicate places)) literals is in
    any_passes (needs predicate) found.item literals found.among (needs_it found.item found.passes)
  where
    needs_it : (literal : Literal) → is_same_literal (Holds true predicate places) literal ≡ true → needs predicate literal ≡ true
    needs_it (Holds positive other other_places) same =
        (and_parts (positive && nat_eq predicate other) (pointwise is_same_place places other_places) same).0
    needs_it (Equal positive left right) same = absurd (true≢false (sym same))

-- ---- a part of a predicate that isn't deleted

module _ (task : Normal) (candidate : Candidate) (schema : Schema) (row : EffectRow) (part : Part)
    (none_own : list_any (is_own_delete candidate schema row) schema.effects ≡ false) (not_deleted : deletes schema part.predicate ≡ false) where
  abbrev longer : Candidate
  longer = with_part task candidate part

  no_delete : (e : Part) (d : EffectRow) → Among d schema.effects → (given : List Place) → balances longer schema e row (row_with schema d given) ≡ true → ⊥
  no_delete e d there given is =
      let gone = row_with schema d given in
      let on_part = λ (other : Part). nat_eq other.predicate d.predicate && pointwise is_same_place (instance_of other gone) (instance_of e row) in
      let conditions = list_all (is_listed (required schema row)) gone.condition in
      let stays = list_all (λ a. never_restores longer schema e row gone (apart_from schema row a)) schema.effects in
      let needs_it = is_listed (required schema row) (Holds true d.predicate gone.places) in
      let both = and_parts (not d.adds && list_any on_part longer.parts && needs_it && conditions) stays is in
      let three = and_parts (not d.adds && list_any on_part longer.parts && needs_it) conditions both.0 in
      let two = and_parts (not d.adds && list_any on_part longer.parts) needs_it three.0 in
      let one = and_parts (not d.adds) (list_any on_part longer.parts) two.0 in
      let found = passing on_part longer.parts one.1 in
      let of_it = eqb-true found.item.predicate d.predicate (and_parts (nat_eq found.item.predicate d.predicate) (pointwise is_same_place (instance_of found.item gone) (instance_of e row)) found.passes).0 in
      elim (own_or_new task candidate part found.item found.among) [
        | inl new ↦ true≢false (sym (any_passes (deletes_of part.predicate) d schema.effects there (and_from (not d.adds) (nat_eq d.predicate part.predicate) one.0 (eq-eqb d.predicate part.predicate (sym (new ∙ of_it))))) ∙ not_deleted)
        | inr own ↦
            let must = needed d.predicate gone.places (required schema row) two.1 in
            let either = sym (list_any-append (needs d.predicate) schema.condition row.condition) ∙ must in
            true≢false (sym (any_passes (is_own_delete candidate schema row) d schema.effects there
            (and_from (not d.adds && has_predicate candidate d.predicate) (list_any (needs d.predicate) schema.condition || list_any (needs d.predicate) row.condition)
            (and_from (not d.adds) (has_predicate candidate d.predicate) one.0 (ap (has_predicate candidate) (sym of_it) ∙ own)) either)) ∙ none_own)
      ]

  pub balances_no_row : balances_row task longer schema row ≡ false
  balances_no_row =
      none_passes (λ (e : Part). nat_eq e.predicate row.predicate && has_balance task longer schema e row) longer.parts (λ e there is.
      let some = passing (λ d. list_any (λ given. balances longer schema e row (row_with schema d given)) (fittings task (schema.parameters ++ row.variables) d)) schema.effects (and_parts (nat_eq e.predicate row.predicate) (has_balance task longer schema e row) is).1 in
      let how = passing (λ given. balances longer schema e row (row_with schema some.item given)) (fittings task (schema.parameters ++ row.variables) some.item) some.passes in
      no_delete e some.item some.among how.item how.passes)

-- ---- the repairs

-- what is left out at the source of what no test keeps isn't missed
left_out : {X Y Z : Type 0} (keeps : X → Bool) (pieces : X → List Y) (made : Y → Z) (test : Z → Bool) (xs : List X) →
    ((x : X) → Among x xs → keeps x ≡ false → (y : Y) → Among y (pieces x) → test (made y) ≡ false) →
    filter test (map made (flat_map pieces (filter keeps xs))) ≡ filter test (map made (flat_map pieces xs))
left_out keeps pieces made test [] none = refl
left_out {X} {Y} {Z} keeps pieces made test (x ∷ xs) none = by (cases_Bool (keeps x)) (left_out keeps pieces made test xs (λ y there. none y (inr there)))
  where
    split : (more : List X) → filter test (map made (flat_map pieces (x ∷ more))) ≡ filter test (map made (pieces x)) ++ filter test (map made (flat_map pieces more))
    split more = ap (filter test) (map-append made (pieces x) (flat_map pieces more)) ∙ filter-append test (map made (pieces x)) (map made (flat_map pieces more))

    by : (keeps x ≡ true) ⊎ (keeps x ≡ false) → filter test (map made (flat_map pieces (filter keeps xs))) ≡ filter test (map made (flat_map pieces xs)) →
        filter test (map made (flat_map pieces (filter keeps (x ∷ xs)))) ≡ filter test (map made (flat_map pieces (x ∷ xs)))
    by (inl is) rest =
        ap (λ l. filter test (map made (flat_map pieces l))) (ap (λ b. cond b (x ∷ filter keeps xs) (filter keeps xs)) is)
        ∙ split (filter keeps xs) ∙ ap (λ l. filter test (map made (pieces x)) ++ l) rest ∙ sym (split xs)
    by (inr not-is) rest =
        ap (λ l. filter test (map made (flat_map pieces l))) (filter_no keeps x xs not-is) ∙ rest
        ∙ sym (split xs ∙ ap (λ l. l ++ filter test (map made (flat_map pieces xs))) nothing)
      where
        nothing : filter test (map made (pieces x)) ≡ []
        nothing =
            filter_none test (map made (pieces x)) (λ z in'.
            let from = map_source made (pieces x) z (among_contains (map made (pieces x)) z in') in
            ap test (sym from.gives) ∙ none x (inl refl) not-is from.source from.among)

-- what is kept and then made is what is made and then kept
pub kept_made : {X Y : Type 0} (made : X → Y) (test : Y → Bool) (xs : List X) → map made (filter (λ x. test (made x)) xs) ≡ filter test (map made xs)
kept_made made test [] = refl
kept_made made test (x ∷ xs) = by (test (made x)) (kept_made made test xs)
  where
    by : (b : Bool) → map made (filter (λ x. test (made x)) xs) ≡ filter test (map made xs) → map made (cond b (x ∷ filter (λ x. test (made x)) xs) (filter (λ x. test (made x)) xs)) ≡ cond b (made x ∷ filter test (map made xs)) (filter test (map made xs))
    by true rest = ap (λ l. made x ∷ l) rest
    by false rest = rest

module _ (task : Normal) (candidate : Candidate) (place : AddPlace) where
  pub among_deleted : may_be_balanced task candidate place ≡ false → (schema : Schema) → slice_get task.schemas place.schema ≡ Some schema →
      repairs_among task candidate place (filter (deletes schema) (others task candidate)) ≡ repairs_at task candidate place
  among_deleted none schema at =
      left_out (deletes schema) (parts_of task candidate.parameters) (with_part task candidate) (balances_add task place) (others task candidate) (λ predicate there not-deleted part in'.
      let changes = changing_facts task predicate (filter_among (λ p. not (has_predicate candidate p)) predicate (changing task) there).0 in
      ap (λ s. option_map_or (λ (sc : Schema). option_map_or (balances_row task (with_part task candidate part) sc) (slice_get sc.effects place.effect) false) s false) at
      ∙ by_row part (ap (deletes schema) (parts_facts task candidate.parameters predicate part changes in').1 ∙ not-deleted) (slice_get schema.effects place.effect) none_here)
    where
      none_here : option_map_or (λ row. list_any (is_own_delete candidate schema row) schema.effects) (slice_get schema.effects place.effect) true ≡ false
      none_here = sym (ap (λ s. option_map_or (λ (sc : Schema). option_map_or (λ row. list_any (is_own_delete candidate sc row) sc.effects) (slice_get sc.effects place.effect) true) s true) at) ∙ none

      by_row : (part : Part) → deletes schema part.predicate ≡ false → (row : Option EffectRow) → option_map_or (λ row. list_any (is_own_delete candidate schema row) schema.effects) row true ≡ false →
          option_map_or (balances_row task (with_part task candidate part) schema) row false ≡ false
      by_row part not-deleted None none' = refl
      by_row part not-deleted (Some row) none' = balances_no_row task candidate schema row part none' not-deleted

-- ---- the predicates that are deleted

module _ (task : Normal) (candidate : Candidate) (schema : Schema) where
  abbrev is_new_delete : EffectRow → Bool
  is_new_delete row = not row.adds && is_changing task row.predicate && not (has_predicate candidate row.predicate)

  abbrev pub new_deletes : List ℕ
  new_deletes = map (λ (row : EffectRow). row.predicate) (filter (λ row. not row.adds && is_changing task row.predicate && not (has_predicate candidate row.predicate)) schema.effects)

  abbrev pub deleted_others : List ℕ
  deleted_others = filter (deletes schema) (others task candidate)

  pub deleted_rise : IsStrictlyIncreasing deleted_others
  deleted_rise =
      IsStrictlyIncreasing-filter (deletes schema) (others task candidate) (IsStrictlyIncreasing-filter (λ p. not (has_predicate candidate p)) (changing task) (IsStrictlyIncreasing-filter (is_changing task) _ (range_increasing _)))

  pub to_deleted : (predicate : ℕ) → Contains new_deletes predicate → Contains deleted_others predicate
  to_deleted predicate in' =
      let from = map_source (λ (row : EffectRow). row.predicate) (filter is_new_delete schema.effects) predicate (among_contains new_deletes predicate in') in
      let kept = filter_among is_new_delete from.source schema.effects from.among in
      let row = from.source in
      let both = and_parts (not row.adds && is_changing task row.predicate) (not (has_predicate candidate row.predicate)) kept.1 in
      let first = and_parts (not row.adds) (is_changing task row.predicate) both.0 in
      subst (Contains deleted_others) from.gives
      (contains_among deleted_others row.predicate
      (among_filter (deletes schema) row.predicate (others task candidate) (among_filter (λ p. not (has_predicate candidate p)) row.predicate (changing task) (among_changing task row.predicate first.1) both.1)
      (any_passes (deletes_of row.predicate) row schema.effects kept.0 (and_from (not row.adds) (nat_eq row.predicate row.predicate) first.0 (eq-eqb row.predicate row.predicate refl)))))

  pub from_deleted : (predicate : ℕ) → Contains deleted_others predicate → Contains new_deletes predicate
  from_deleted predicate in' =
      let outer = filter_among (deletes schema) predicate (others task candidate) (among_contains deleted_others predicate in') in
      let inner = filter_among (λ p. not (has_predicate candidate p)) predicate (changing task) outer.0 in
      let found = passing (deletes_of predicate) schema.effects outer.1 in
      let row = found.item in
      let is = and_parts (not row.adds) (nat_eq row.predicate predicate) found.passes in
      let same = eqb-true row.predicate predicate is.1 in
      subst (Contains new_deletes) same
      (contains_among new_deletes row.predicate
      (among_map (λ (r : EffectRow). r.predicate) row (filter is_new_delete schema.effects)
      (among_filter is_new_delete row schema.effects found.among
      (and_from (not row.adds && is_changing task row.predicate) (not (has_predicate candidate row.predicate))
      (and_from (not row.adds) (is_changing task row.predicate) is.0 (ap (is_changing task) same ∙ changing_facts task predicate inner.0)) (ap (λ p. not (has_predicate candidate p)) same ∙ inner.1)))))
