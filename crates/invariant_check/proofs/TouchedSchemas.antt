-- What a candidate says of the schemas that add atoms of its predicates it says of all.
use Rattle.std.proofs.Common.{◌≡◌, ℕ, zero, suc, ◌+◌, ◌<◌, Bool, true, false, not, ◌&&◌, ◌||◌, cond, ◌⊎◌, inl, inr, List, [], ◌∷◌, ◌++◌, map, length, Option, Some, None, refl, sym, ap, ◌∙◌, subst, arith}
use Rattle.std.specs.Prelude.{nat_eq, nat_lt, slice_get}
use Rattle.std.specs.List.{Contains, filter, flat_map, list_all, list_any, position_from, range_with_len}
use Rattle.std.specs.Option.{option_map_or}
use Rattle.std.specs.Cmp.{nat_eq_equiv}
use Rattle.std.proofs.lemmas.Bool.{cases_Bool, true≢false, false_from_ne_true, eqb-true, eq-eqb, and_parts, and_from}
use Rattle.std.proofs.lemmas.List.Folds.{list_any-append}
use Rattle.std.proofs.lemmas.List.Kept.{IsStrictlyIncreasing-filter}
use Rattle.std.proofs.lemmas.Option.{slice_get_within}
use Rattle.std.specs.List.Sorted.{IsStrictlyIncreasing}
use Rattle.std.proofs.Math.Bool.{and-false}
use Rattle.lists.proofs.Items.{Among, among_contains, contains_among, each_passes, any_passes, any_kept, any_swap, any_flat_map, filter_yes, filter_no}
use Rattle.lists.proofs.Members.{any_member, member_any, member_range, member_filter, filter_member}
use Rattle.lists.proofs.Ordered.{range_increasing}
use Rattle.normal_task.specs.declared.task.EffectRow.{EffectRow}
use Rattle.normal_task.specs.declared.task.Normal.{Normal}
use Rattle.normal_task.specs.declared.task.Schema.{Schema}
use Rattle.normal_task.proofs.Anys.{any-same, any-and_right}
use Rattle.contradictions.specs.declared.types.Candidate.{Candidate}
use Rattle.contradictions.specs.declared.types.Part.{Part}
use Rattle.invariant_check.specs.Extensions.{has_predicate}
use Rattle.invariant_check.specs.declared.types.AddOf.{AddOf}
use Rattle.invariant_check.specs.declared.types.AddPlace.{AddPlace}
use Rattle.invariant_check.specs.Accepted.{part_passes, add_passes, is_light_add, is_light_in, is_light, is_balanced_at}
use Rattle.invariant_check.specs.Repairs.{is_unbalanced_add, first_unbalanced}
use Rattle.invariant_check.specs.Touched.{add_of, adds_of, adds_from, touches, is_touching, touching, is_light_at, first_row_at, first_among}

-- ---- the add effects on the predicates of a candidate

module _ (candidate : Candidate) where
  -- the add effect is on a predicate of the candidate, and of this schema
  abbrev pub is_of : ℕ → AddOf → Bool
  is_of number add = has_predicate candidate add.predicate && nat_eq add.schema number

  in_schema : (number start : ℕ) (schema : Schema) → list_any (is_of number) (adds_of start schema) ≡ (touches candidate schema && nat_eq start number)
  in_schema number start schema =
      sym (any_kept (λ (row : EffectRow). row.adds) (add_of start) (λ row. (row.adds && has_predicate candidate row.predicate) && nat_eq start number) (is_of number) schema.effects
      (λ row there adds. ap (λ b. (b && has_predicate candidate row.predicate) && nat_eq start number) adds)
      (λ row there deletes. ap (λ b. (b && has_predicate candidate row.predicate) && nat_eq start number) deletes))
      ∙ any-and_right (nat_eq start number) (λ row. row.adds && has_predicate candidate row.predicate) schema.effects

  apart : (number start : ℕ) → (start ≡ number → ⊥) → nat_eq start number ≡ false
  apart number start differ = false_from_ne_true (nat_eq start number) (λ is. differ (eqb-true start number is))

  neither : (a b t e : Bool) → a ≡ (t && e) → e ≡ false → (a || b) ≡ b
  neither a b t e is none = ap (λ x. x || b) (is ∙ ap (λ x. t && x) none ∙ and-false t)

  later : (number start : ℕ) (schemas : List Schema) → number < start → list_any (is_of number) (adds_from start schemas) ≡ false
  later number start [] before = refl
  later number start (schema ∷ more) before =
      list_any-append (is_of number) (adds_of start schema) (adds_from (start + 1) more)
      ∙ neither (list_any (is_of number) (adds_of start schema)) (list_any (is_of number) (adds_from (start + 1) more)) (touches candidate schema) (nat_eq start number) (in_schema number start schema)
      (apart number start (λ same. omega (arith, same, before)))
      ∙ later number (start + 1) more (omega (arith, before))

  told : (i start : ℕ) (schemas : List Schema) → list_any (is_of (start + i)) (adds_from start schemas) ≡ option_map_or (touches candidate) (slice_get schemas i) false
  told i start [] = refl
  told zero start (schema ∷ more) =
      let same : start ≡ start + zero = omega arith in
      list_any-append (is_of (start + zero)) (adds_of start schema) (adds_from (start + 1) more)
      ∙ first (list_any (is_of (start + zero)) (adds_of start schema)) (list_any (is_of (start + zero)) (adds_from (start + 1) more)) (touches candidate schema) (nat_eq start (start + zero)) (in_schema (start + zero) start schema)
      (eq-eqb start (start + zero) same) (later (start + zero) (start + 1) more (omega arith))
    where
      first : (a b t e : Bool) → a ≡ (t && e) → e ≡ true → b ≡ false → (a || b) ≡ t
      first a b true e is one none = ap (λ x. x || b) (is ∙ one)
      first a b false e is one none = ap (λ x. x || b) is ∙ none
  told (suc i) start (schema ∷ more) =
      let next : start + suc i ≡ start + 1 + i = omega arith in
      list_any-append (is_of (start + suc i)) (adds_of start schema) (adds_from (start + 1) more)
      ∙ neither (list_any (is_of (start + suc i)) (adds_of start schema)) (list_any (is_of (start + suc i)) (adds_from (start + 1) more)) (touches candidate schema) (nat_eq start (start + suc i)) (in_schema (start + suc i) start schema)
      (apart (start + suc i) start (λ same. omega (arith, same)))
      ∙ ap (λ n. list_any (is_of n) (adds_from (start + 1) more)) next
      ∙ told i (start + 1) more

  -- some add effect on a predicate of the candidate is of this schema, where these are found part by part
  pub found : (adds : List AddOf) (number : ℕ) →
      list_any (λ n. nat_eq n number) (flat_map (λ (part : Part). map (λ (add : AddOf). add.schema) (filter (λ add. nat_eq add.predicate part.predicate) adds)) candidate.parts) ≡ list_any (is_of number) adds
  found adds number =
      any_flat_map (λ (part : Part). map (λ (add : AddOf). add.schema) (filter (λ add. nat_eq add.predicate part.predicate) adds)) (λ n. nat_eq n number) candidate.parts
      ∙ any-same (λ (part : Part). list_any (λ n. nat_eq n number) (map (λ (add : AddOf). add.schema) (filter (λ add. nat_eq add.predicate part.predicate) adds)))
      (λ (part : Part). list_any (λ (add : AddOf). nat_eq part.predicate add.predicate && nat_eq add.schema number) adds)
      (λ part. sym (any_kept (λ (add : AddOf). nat_eq add.predicate part.predicate) (λ (add : AddOf). add.schema) (λ add. nat_eq part.predicate add.predicate && nat_eq add.schema number) (λ n. nat_eq n number) adds
      (λ add there is. ap (λ b. b && nat_eq add.schema number) (turned part.predicate add.predicate ∙ is)) (λ add there not-is. ap (λ b. b && nat_eq add.schema number) (turned part.predicate add.predicate ∙ not-is)))) candidate.parts
      ∙ any_swap (λ (part : Part) (add : AddOf). nat_eq part.predicate add.predicate && nat_eq add.schema number) candidate.parts adds
      ∙ any-same (λ (add : AddOf). list_any (λ (part : Part). nat_eq part.predicate add.predicate && nat_eq add.schema number) candidate.parts) (is_of number)
      (λ add. any-and_right (nat_eq add.schema number) (λ (part : Part). nat_eq part.predicate add.predicate) candidate.parts) adds
    where
      turned : (x y : ℕ) → nat_eq x y ≡ nat_eq y x
      turned x y =
          elim (cases_Bool (nat_eq y x)) [
            | inl same ↦ eq-eqb x y (sym (eqb-true y x same)) ∙ sym same
            | inr differ ↦ false_from_ne_true (nat_eq x y) (λ same. true≢false (sym (eq-eqb y x (sym (eqb-true x y same))) ∙ differ)) ∙ sym differ
          ]

-- the schemas that add atoms of the candidate's predicates, by numbers that are told by the add effects
module _ (task : Normal) (candidate : Candidate) where
  touching_below : (number : ℕ) → is_touching task candidate number ≡ true → number < length task.schemas
  touching_below number is = by (slice_get task.schemas number) refl is
    where
      by : (schema : Option Schema) → slice_get task.schemas number ≡ schema → option_map_or (touches candidate) schema false ≡ true → number < length task.schemas
      by None at none = absurd (true≢false (sym none))
      by (Some schema) at some = slice_get_within task.schemas number schema at

  pub touching_rises : IsStrictlyIncreasing (touching task candidate)
  touching_rises = IsStrictlyIncreasing-filter (is_touching task candidate) (range_with_len 0 (length task.schemas)) (range_increasing (length task.schemas))

  module _ (adds : List AddOf) (all : (test : AddOf → Bool) → list_any test adds ≡ list_any test (adds_from 0 task.schemas)) (numbers : List ℕ)
      (are : numbers ≡ flat_map (λ (part : Part). map (λ (add : AddOf). add.schema) (filter (λ add. nat_eq add.predicate part.predicate) adds)) candidate.parts) where
    member_is : (number : ℕ) → list_any (λ n. nat_eq n number) numbers ≡ is_touching task candidate number
    member_is number =
        let zero-first : number ≡ 0 + number = omega arith in
        ap (list_any (λ n. nat_eq n number)) are ∙ found candidate adds number ∙ all (is_of candidate number)
        ∙ ap (λ n. list_any (is_of candidate n) (adds_from 0 task.schemas)) zero-first
        ∙ told candidate number 0 task.schemas

    pub to_touching : (number : ℕ) → Contains numbers number → Contains (touching task candidate) number
    to_touching number in' =
        let is = sym (member_is number) ∙ member_any (λ n. nat_eq n number) numbers number in' (eq-eqb number number refl) in
        member_filter (is_touching task candidate) (range_with_len 0 (length task.schemas)) number (member_range (length task.schemas) number (touching_below number is)) is

    pub from_touching : (number : ℕ) → Contains (touching task candidate) number → Contains numbers number
    from_touching number in' =
        let is = filter_member (is_touching task candidate) (range_with_len 0 (length task.schemas)) number in' in
        let there = any_member (λ n. nat_eq n number) numbers (member_is number ∙ is.1) in
        subst (Contains numbers) (eqb-true there.0 number there.2) there.1

-- ---- schemas that don't add atoms of the candidate's predicates

module _ (task : Normal) (candidate : Candidate) (schema : Schema) (untouched : touches candidate schema ≡ false) where
  no_add : (row : EffectRow) → Among row schema.effects → (row.adds && has_predicate candidate row.predicate) ≡ false
  no_add row there =
      false_from_ne_true (row.adds && has_predicate candidate row.predicate)
      (λ is. true≢false (sym (any_passes (λ (r : EffectRow). r.adds && has_predicate candidate r.predicate) row schema.effects there is) ∙ untouched))

  no_part : (row : EffectRow) → Among row schema.effects → row.adds ≡ true → (part : Part) → Among part candidate.parts → nat_eq part.predicate row.predicate ≡ false
  no_part row there adds part in' =
      false_from_ne_true (nat_eq part.predicate row.predicate)
      (λ is. true≢false (sym (and_from row.adds (has_predicate candidate row.predicate) adds (any_passes (λ (p : Part). nat_eq p.predicate row.predicate) part candidate.parts in' is)) ∙ no_add row there))

  pub untouched_light : is_light_in candidate schema ≡ true
  untouched_light = each_passes (add_passes candidate (is_light_add candidate schema)) schema.effects (λ row there. by row there (cases_Bool row.adds))
    where
      by : (row : EffectRow) → Among row schema.effects → (row.adds ≡ true) ⊎ (row.adds ≡ false) → add_passes candidate (is_light_add candidate schema) row ≡ true
      by row there (inl adds) =
          ap (λ b. not b || list_all (part_passes (is_light_add candidate schema) row) candidate.parts) adds
          ∙ each_passes (part_passes (is_light_add candidate schema) row) candidate.parts (λ part in'. ap (λ b. not b || is_light_add candidate schema part row) (no_part row there adds part in'))
      by row there (inr deletes) = ap (λ b. not b || list_all (part_passes (is_light_add candidate schema) row) candidate.parts) deletes

  is_balanced_row : (row : EffectRow) → Among row schema.effects → is_unbalanced_add task candidate schema row ≡ false
  is_balanced_row row there =
      false_from_ne_true (is_unbalanced_add task candidate schema row) (λ is.
      let parts = and_parts row.adds (list_any (λ (part : Part). nat_eq part.predicate row.predicate && not (is_balanced_at task candidate schema part row)) candidate.parts) is in
      let some = any_member (λ (part : Part). nat_eq part.predicate row.predicate && not (is_balanced_at task candidate schema part row)) candidate.parts parts.1 in
      true≢false (sym (and_parts (nat_eq some.0.predicate row.predicate) (not (is_balanced_at task candidate schema some.0 row)) some.2).0 ∙ no_part row there parts.0 some.0 (among_contains candidate.parts some.0 some.1)))

  pub untouched_balanced : position_from (is_unbalanced_add task candidate schema) 0 schema.effects ≡ None
  untouched_balanced = nowhere 0 schema.effects is_balanced_row
    where
      nowhere : (start : ℕ) (rows : List EffectRow) → ((row : EffectRow) → Among row rows → is_unbalanced_add task candidate schema row ≡ false) → position_from (is_unbalanced_add task candidate schema) start rows ≡ None
      nowhere start [] none = refl
      nowhere start (row ∷ rows) none =
          ap (λ b. cond b (Some start) (position_from (is_unbalanced_add task candidate schema) (start + 1) rows)) (none row (inl refl))
          ∙ nowhere (start + 1) rows (λ other there. none other (inr there))

-- ---- the schemas that are looked at, and all

module _ (task : Normal) (candidate : Candidate) where
  -- the schemas stand in the task from this number on
  abbrev StandAt : ℕ → List Schema → Type 0
  StandAt start schemas = (i : ℕ) → slice_get task.schemas (start + i) ≡ slice_get schemas i

  first_at : (start : ℕ) (schema : Schema) (more : List Schema) → StandAt start (schema ∷ more) → slice_get task.schemas start ≡ Some schema
  first_at start schema more stand = let same : start ≡ start + 0 = omega arith in ap (slice_get task.schemas) same ∙ stand 0

  behind : (start : ℕ) (schema : Schema) (more : List Schema) → StandAt start (schema ∷ more) → StandAt (start + 1) more
  behind start schema more stand i = let same : start + 1 + i ≡ start + suc i = omega arith in ap (slice_get task.schemas) same ∙ stand (suc i)

  abbrev numbers_from : ℕ → List Schema → List ℕ
  numbers_from start schemas = filter (is_touching task candidate) (range_with_len start (length schemas))

  light_from : (start : ℕ) (schemas : List Schema) → StandAt start schemas → list_all (is_light_at task candidate) (numbers_from start schemas) ≡ list_all (is_light_in candidate) schemas
  light_from start [] stand = refl
  light_from start (schema ∷ more) stand = by (cases_Bool (touches candidate schema)) (light_from (start + 1) more (behind start schema more stand))
    where
      here : slice_get task.schemas start ≡ Some schema
      here = first_at start schema more stand

      by : (touches candidate schema ≡ true) ⊎ (touches candidate schema ≡ false) → list_all (is_light_at task candidate) (numbers_from (start + 1) more) ≡ list_all (is_light_in candidate) more →
          list_all (is_light_at task candidate) (numbers_from start (schema ∷ more)) ≡ list_all (is_light_in candidate) (schema ∷ more)
      by (inl touched) rest =
          ap (list_all (is_light_at task candidate)) (filter_yes (is_touching task candidate) start (range_with_len (start + 1) (length more)) (ap (λ s. option_map_or (touches candidate) s false) here ∙ touched))
          ∙ ap (λ s. option_map_or (is_light_in candidate) s true && list_all (is_light_at task candidate) (numbers_from (start + 1) more)) here
          ∙ ap (λ b. is_light_in candidate schema && b) rest
      by (inr untouched) rest =
          ap (list_all (is_light_at task candidate)) (filter_no (is_touching task candidate) start (range_with_len (start + 1) (length more)) (ap (λ s. option_map_or (touches candidate) s false) here ∙ untouched))
          ∙ rest ∙ sym (ap (λ b. b && list_all (is_light_in candidate) more) (untouched_light task candidate schema untouched))

  first_from : (start : ℕ) (schemas : List Schema) → StandAt start schemas → first_among task candidate (numbers_from start schemas) ≡ first_unbalanced task candidate start schemas
  first_from start [] stand = refl
  first_from start (schema ∷ more) stand = by (cases_Bool (touches candidate schema)) (first_from (start + 1) more (behind start schema more stand))
    where
      here : slice_get task.schemas start ≡ Some schema
      here = first_at start schema more stand

      place : Option ℕ → Option AddPlace → Option AddPlace
      place effect rest = option_map_or (λ e. Some (record { schema = start; effect = e })) effect rest

      by : (touches candidate schema ≡ true) ⊎ (touches candidate schema ≡ false) → first_among task candidate (numbers_from (start + 1) more) ≡ first_unbalanced task candidate (start + 1) more →
          first_among task candidate (numbers_from start (schema ∷ more)) ≡ first_unbalanced task candidate start (schema ∷ more)
      by (inl touched) rest =
          ap (first_among task candidate) (filter_yes (is_touching task candidate) start (range_with_len (start + 1) (length more)) (ap (λ s. option_map_or (touches candidate) s false) here ∙ touched))
          ∙ ap (λ s. place (option_map_or (λ (sc : Schema). position_from (is_unbalanced_add task candidate sc) 0 sc.effects) s None) (first_among task candidate (numbers_from (start + 1) more))) here
          ∙ ap (place (position_from (is_unbalanced_add task candidate schema) 0 schema.effects)) rest
      by (inr untouched) rest =
          ap (first_among task candidate) (filter_no (is_touching task candidate) start (range_with_len (start + 1) (length more)) (ap (λ s. option_map_or (touches candidate) s false) here ∙ untouched))
          ∙ rest ∙ sym (ap (λ effect. place effect (first_unbalanced task candidate (start + 1) more)) (untouched_balanced task candidate schema untouched))

  all_stand : StandAt 0 task.schemas
  all_stand i = let same : 0 + i ≡ i = omega arith in ap (slice_get task.schemas) same

  pub light_of_touching : list_all (is_light_at task candidate) (touching task candidate) ≡ is_light task candidate
  light_of_touching = light_from 0 task.schemas all_stand

  pub first_of_touching : first_among task candidate (touching task candidate) ≡ first_unbalanced task candidate 0 task.schemas
  first_of_touching = first_from 0 task.schemas all_stand
