-- One step keeps the weight of an instance of an accepted candidate at most one.
use Rattle.std.proofs.Common.{◌≡◌, ℕ, ◌+◌, Bool, true, false, not, ◌&&◌, ◌||◌, List, [], ◌∷◌, ◌++◌, map, length, ◌⊎◌, inl, inr, refl, sym, ap, ◌∙◌, subst, arith}
use Rattle.std.specs.Prelude.{nat_eq, zip}
use Rattle.std.specs.List.{list_any, list_all}
use Rattle.std.specs.Cmp.Lexicographic.{pointwise}
use Rattle.std.proofs.lemmas.Bool.{both_ways, cases_Bool, eqb-true, eq-eqb, and_parts, and_from, or_cases, not-true, not_from_false}
use Rattle.lists.proofs.Items.{Among, all_passes, any_passes, passing, among_contains}
use Rattle.normal_task.specs.declared.task.EffectRow.{EffectRow}
use Rattle.normal_task.specs.declared.task.GroundAtom.{GroundAtom}
use Rattle.normal_task.specs.declared.task.Literal.{Literal}
use Rattle.normal_task.specs.declared.task.Literal.TheVariants.{Holds}
use Rattle.normal_task.specs.declared.task.Normal.{Normal}
use Rattle.normal_task.specs.declared.task.Place.{Place}
use Rattle.normal_task.specs.declared.task.Place.TheVariants.{Object}
use Rattle.normal_task.specs.declared.task.Schema.{Schema}
use Rattle.normal_task.specs.Lawful.{IsLawful, is_schema, is_effect, is_literal, is_place}
use Rattle.normal_task.specs.Meaning.{atom_of, is_same_atom, State, Binding, object_at, objects_at, choices, answers, is_met, are_met, is_derived, is_on, row_writes, writes, Step, normal_task}
use Rattle.normal_task.proofs.Chosen.{is_choice}
use Rattle.normal_task.proofs.Steps.{is_normal_step}
use Rattle.planning.specs.Task.{Takes}
use Rattle.normal_task.specs.Parts.{moved, moved_place}
use Rattle.normal_task.specs.Within.{place_within, literal_within}
use Rattle.normal_task.proofs.Alls.{all-weaker, all-both}
use Rattle.normal_task.proofs.PartsMean.{all-met-kept, all-met-moved, moved-places, places-kept}
use Rattle.normal_task.proofs.Scopes.{append-assoc, length-append, choice-append}
use Rattle.normal_task.proofs.Steps.{choice-length, among-choice, choice-among}
use Rattle.contradictions.specs.declared.types.Candidate.{Candidate}
use Rattle.contradictions.specs.declared.types.Part.{Part}
use Rattle.contradictions.specs.Candidates.{at_positions, covers, IsAtMostOne}
use Rattle.contradictions.specs.Contradictory.{is_same_place, in_one_class, all_pairs, are_same_terms, is_contradictory}
use Rattle.contradictions.specs.GivenTerms.{with_terms, literal_with}
use Rattle.contradictions.proofs.Contradiction.{equal_objects, never_contradictory}
use Rattle.contradictions.proofs.Covering.{Covering, covering, covered}
use Rattle.contradictions.proofs.SamePlaces.{same_places, at_positions-map, zip_equal}
use Rattle.invariant_check.specs.Accepted.{each_add, instance_of, denied, apart_from, ranges_with, both_added, are_light, is_light_in, is_light, required, is_listed, fittings, row_with, added_beside, never_restores, balances, has_balance, is_balanced_at, is_balanced, is_accepted}
use Rattle.invariant_check.specs.Soundness.{is_basic}
use Rattle.invariant_check.proofs.Bindings.{place-within, literal-within, literal-more, places-given, all-met-given, listed-passes, choice-typed, fittings-choose}
use Rattle.normal_task.proofs.OnceEach.{same_atom, atom_same}

-- ---- an effect that writes an atom

pub record Fires (full : State) (schema : Schema) (objects : Binding) (adds : Bool) (atom : GroundAtom) : Type 0 where
  pub row : EffectRow
  pub values : Binding
  pub among : Among row schema.effects
  pub kind : row.adds ≡ adds
  pub typed : is_choice row.variables values ≡ true
  pub condition : are_met full (objects ++ values) row.condition ≡ true
  pub is : atom_of row.predicate (objects_at (objects ++ values) row.places) ≡ atom

same-answer : (a b : Bool) → answers a b ≡ true → b ≡ a
same-answer true b is = is
same-answer false b is = not-true b is

pub fires : (full : State) (schema : Schema) (objects : Binding) (adds : Bool) (atom : GroundAtom) → writes full adds schema.effects objects atom ≡ true → Fires full schema objects adds atom
fires full schema objects adds atom is =
    let row = passing (row_writes full adds objects atom) schema.effects is in
    let sides = and_parts (answers adds row.item.adds) (list_any (λ values. is_on full atom row.item (objects ++ values)) (choices row.item.variables)) row.passes in
    let values = passing (λ values. is_on full atom row.item (objects ++ values)) (choices row.item.variables) sides.1 in
    let on = and_parts (is_same_atom (atom_of row.item.predicate (objects_at (objects ++ values.item) row.item.places)) atom) (are_met full (objects ++ values.item) row.item.condition) values.passes in
    record {
      row = row.item;
      values = values.item;
      among = row.among;
      kind = same-answer adds row.item.adds sides.0;
      typed = among-choice row.item.variables values.item values.among;
      condition = on.1;
      is = same_atom (atom_of row.item.predicate (objects_at (objects ++ values.item) row.item.places)) atom on.0;
    }

-- ---- add effects that pass

implied : (a b : Bool) → (not a || b) ≡ true → a ≡ true → b ≡ true
implied a b is a-is = elim (or_cases (not a) b is) [ inl isnt ↦ absurd (both_ways a (not-true a isnt) a-is) | inr b-is ↦ b-is ]

-- an add effect on a predicate of the candidate passes
pub add-passes : (candidate : Candidate) (schema : Schema) (test : Part → EffectRow → Bool) → each_add candidate schema test ≡ true →
    (part : Part) (row : EffectRow) → Among row schema.effects → row.adds ≡ true → Among part candidate.parts → part.predicate ≡ row.predicate → test part row ≡ true
add-passes candidate schema test all part row in-row adds in-part same =
    let here = all_passes (λ (row : EffectRow). not row.adds || list_all (λ (part : Part). not (nat_eq part.predicate row.predicate) || test part row) candidate.parts) row schema.effects in-row all in
    let parts = implied row.adds (list_all (λ (part : Part). not (nat_eq part.predicate row.predicate) || test part row) candidate.parts) here adds in
    implied (nat_eq part.predicate row.predicate) (test part row) (all_passes (λ (part : Part). not (nat_eq part.predicate row.predicate) || test part row) part candidate.parts in-part parts) (eq-eqb part.predicate row.predicate same)

module _ (task : Normal) (candidate : Candidate) (instance : List ℕ) (full : State) (most : IsAtMostOne full candidate instance)
    (schema : Schema) (objects : Binding) (lawful : is_schema task schema ≡ true) (typed : is_choice schema.parameters objects ≡ true) (applicable : are_met full objects schema.condition ≡ true) where
  many : length objects ≡ length schema.parameters
  many = choice-length schema.parameters objects typed

  lawful-parts : (list_all (is_literal task (length schema.parameters)) schema.condition ≡ true) × (list_all (is_effect task (length schema.parameters)) schema.effects ≡ true)
  lawful-parts =
      let outer = and_parts _ _ lawful in
      let inner = and_parts _ _ outer.0 in
      ((and_parts _ _ inner.0).1, inner.1)

  pre-within : list_all (literal_within (length schema.parameters)) schema.condition ≡ true
  pre-within = all-weaker (is_literal task (length schema.parameters)) (literal_within (length schema.parameters)) (literal-within task (length schema.parameters)) schema.condition lawful-parts.0

  -- the precondition beside more values
  pre-met : (values : Binding) → are_met full (objects ++ values) schema.condition ≡ true
  pre-met values =
      all-met-kept full objects values schema.condition (subst (λ (n : ℕ). list_all (literal_within n) schema.condition ≡ true) (sym many) pre-within) ∙ applicable

  module _ (atom : GroundAtom) (adds : Bool) (f : Fires full schema objects adds atom) where
    row-lawful : is_effect task (length schema.parameters) f.row ≡ true
    row-lawful = all_passes (is_effect task (length schema.parameters)) f.row schema.effects f.among lawful-parts.1

    size : length schema.parameters + length f.row.variables ≡ length (objects ++ f.values)
    size = omega (arith, many, choice-length f.row.variables f.values f.typed, length-append objects f.values)

    row-within : (list_all (literal_within (length (objects ++ f.values))) f.row.condition ≡ true) × (list_all (place_within (length (objects ++ f.values))) f.row.places ≡ true)
    row-within =
        let outer = and_parts _ _ row-lawful in
        let inner = and_parts _ _ outer.0 in
        let conditions = (and_parts _ _ inner.0).1 in
        let bound = length schema.parameters + length f.row.variables in (
          subst (λ (n : ℕ). list_all (literal_within n) f.row.condition ≡ true) size (all-weaker (is_literal task bound) (literal_within bound) (literal-within task bound) f.row.condition conditions),
          subst (λ (n : ℕ). list_all (place_within n) f.row.places ≡ true) size (all-weaker (is_place task bound) (place_within bound) (place-within task bound) f.row.places inner.1),
        )

    -- R(e)
    required-within : list_all (literal_within (length (objects ++ f.values))) (required schema f.row) ≡ true
    required-within =
        all-both (literal_within (length (objects ++ f.values))) schema.condition f.row.condition
        (subst (λ (n : ℕ). list_all (literal_within n) schema.condition ≡ true) (ap (λ (n : ℕ). n + length f.values) (sym many) ∙ sym (length-append objects f.values))
        (all-weaker (literal_within (length schema.parameters)) (literal_within (length schema.parameters + length f.values)) (literal-more (length schema.parameters) (length f.values)) schema.condition pre-within))
        row-within.0

    required-met : are_met full (objects ++ f.values) (required schema f.row) ≡ true
    required-met = all-both (is_met full (objects ++ f.values)) schema.condition f.row.condition (pre-met f.values) f.condition

    places-first : (more : Binding) → objects_at (objects ++ (f.values ++ more)) f.row.places ≡ objects_at (objects ++ f.values) f.row.places
    places-first more =
        ap (λ (b : Binding). objects_at b f.row.places) (sym (append-assoc objects f.values more)) ∙ places-kept (objects ++ f.values) more f.row.places row-within.1

    met-first : (more : Binding) (literals : List Literal) → list_all (literal_within (length (objects ++ f.values))) literals ≡ true → are_met full (objects ++ f.values) literals ≡ true → are_met full (objects ++ (f.values ++ more)) literals ≡ true
    met-first more literals within met =
        ap (λ (b : Binding). are_met full b literals) (sym (append-assoc objects f.values more)) ∙ all-met-kept full (objects ++ f.values) more literals within ∙ met

    -- what the row says when it is renamed apart from another with these values
    met-apart : (e : EffectRow) (first : Binding) → length first ≡ length e.variables → are_met full (objects ++ (first ++ f.values)) (apart_from schema e f.row).condition ≡ true
    met-apart e first long =
        ap (λ (n : ℕ). are_met full (objects ++ (first ++ f.values)) (map (moved n (length e.variables)) f.row.condition)) (sym many)
        ∙ ap (λ (n : ℕ). are_met full (objects ++ (first ++ f.values)) (map (moved (length objects) n) f.row.condition)) (sym long)
        ∙ all-met-moved full objects first f.values f.row.condition
        ∙ f.condition

    places-apart : (e : EffectRow) (first : Binding) → length first ≡ length e.variables → objects_at (objects ++ (first ++ f.values)) (apart_from schema e f.row).places ≡ objects_at (objects ++ f.values) f.row.places
    places-apart e first long =
        ap (λ (n : ℕ). objects_at (objects ++ (first ++ f.values)) (map (moved_place n (length e.variables)) f.row.places)) (sym many)
        ∙ ap (λ (n : ℕ). objects_at (objects ++ (first ++ f.values)) (map (moved_place (length objects) n) f.row.places)) (sym long)
        ∙ moved-places objects first f.values f.row.places

    instance-is : (c : Covering candidate instance atom) (binding : Binding) (places : List Place) → objects_at binding places ≡ objects_at (objects ++ f.values) f.row.places → objects_at binding (at_positions (Object 0) c.part.places places) ≡ instance
    instance-is c binding places same =
        at_positions-map (object_at binding) (Object 0) c.part.places places
        ∙ ap (at_positions 0 c.part.places) (same ∙ ap (λ (a : GroundAtom). a.objects) f.is)
        ∙ c.agrees

    -- its atom is false
    denied-met : full atom ≡ false → (binding : Binding) (places : List Place) → objects_at binding places ≡ objects_at (objects ++ f.values) f.row.places → is_met full binding (Holds false f.row.predicate places) ≡ true
    denied-met isnt binding places same =
        not_from_false (full (atom_of f.row.predicate (objects_at binding places)))
        (ap (λ (os : List ℕ). full (atom_of f.row.predicate os)) same ∙ ap full f.is ∙ isnt)

    same-predicate : (c : Covering candidate instance atom) → c.part.predicate ≡ f.row.predicate
    same-predicate c = c.same_predicate ∙ sym (ap (λ (a : GroundAtom). a.predicate) f.is)

  -- ---- two atoms that were false and are added

  two-added : is_light_in candidate schema ≡ true → (x y : GroundAtom) → covers candidate instance x ≡ true → covers candidate instance y ≡ true → full x ≡ false → full y ≡ false →
      Fires full schema objects true x → Fires full schema objects true y → x ≡ y
  two-added light x y is-x is-y not-x not-y fx fy =
      let cx = covering candidate instance x is-x in
      let cy = covering candidate instance y is-y in
      let e = fx.row in
      let f = apart_from schema e fy.row in
      let binding = objects ++ (fx.values ++ fy.values) in
      let long = choice-length e.variables fx.values fx.typed in
      let first = add-passes candidate schema (λ (part : Part) (e : EffectRow). each_add candidate schema (λ (other : Part) (f : EffectRow). are_light candidate schema part e other (apart_from schema e f))) light cx.part e fx.among fx.kind cx.among (same-predicate x true fx cx) in
      let both = add-passes candidate schema (λ (other : Part) (f : EffectRow). are_light candidate schema cx.part e other (apart_from schema e f)) first cy.part fy.row fy.among fy.kind cy.among (same-predicate y true fy cy) in
      let places-x = places-first x true fx fy.values in
      let places-y = places-apart y true fy e fx.values long in
      let met : are_met full binding (both_added schema e f) ≡ true =
      all-both (is_met full binding) schema.condition _ (pre-met (fx.values ++ fy.values))
      (all-both (is_met full binding) e.condition _ (met-first x true fx fy.values e.condition (row-within x true fx).0 fx.condition)
      (all-both (is_met full binding) f.condition (denied e ∷ denied f ∷ []) (met-apart y true fy e fx.values long)
      (and_from (is_met full binding (denied e)) (is_met full binding (denied f) && true) (denied-met x true fx not-x binding e.places places-x)
      (and_from (is_met full binding (denied f)) true (denied-met y true fy not-y binding f.places places-y) refl)))) in
      let instance-x = instance-is x true fx cx binding e.places places-x in
      let instance-y = instance-is y true fy cy binding f.places places-y in
      let equal : (pair : Place × Place) → Among pair (zip (instance_of cx.part e) (instance_of cy.part f)) → object_at binding pair.0 ≡ object_at binding pair.1 =
      zip_equal (object_at binding) (instance_of cx.part e) (instance_of cy.part f) (instance-x ∙ sym instance-y) in
      let ranges = ranges_with schema e f in
      let equated = zip (instance_of cx.part e) (instance_of cy.part f) in
      elim (or_cases (nat_eq e.predicate f.predicate && are_same_terms (in_one_class (all_pairs (both_added schema e f) equated)) e.places f.places) (is_contradictory candidate ranges (both_added schema e f) equated (instance_of cx.part e)) both) [
        | inl same ↦
            let sides = and_parts (nat_eq e.predicate f.predicate) (are_same_terms (in_one_class (all_pairs (both_added schema e f) equated)) e.places f.places) same in
            let os : objects_at (objects ++ fx.values) fx.row.places ≡ objects_at (objects ++ fy.values) fy.row.places =
            sym places-x ∙ equal_objects (both_added schema e f) equated full binding met equal e.places f.places sides.1 ∙ places-y in
            sym fx.is ∙ ap (λ (p : ℕ). atom_of p (objects_at (objects ++ fx.values) fx.row.places)) (eqb-true e.predicate f.predicate sides.0) ∙ ap (atom_of fy.row.predicate) os ∙ fy.is
        | inr contradiction ↦
            absurd (never_contradictory candidate ranges (both_added schema e f) equated (instance_of cx.part e) full binding met equal
            (choice-typed ranges binding (choice-append schema.parameters (e.variables ++ f.variables) objects (fx.values ++ fy.values) typed (choice-append e.variables f.variables fx.values fy.values fx.typed fy.typed)))
            (subst (λ (i : List ℕ). IsAtMostOne full candidate i) (sym instance-x) most) contradiction)
      ]

  -- ---- one that was true, and one that was false and is added

  module _ (y : GroundAtom) (is-y : covers candidate instance y ≡ true) (not-y : full y ≡ false) (fy : Fires full schema objects true y) where
    abbrev cy : Covering candidate instance y
    cy = covering candidate instance y is-y

    never-added : is_contradictory candidate (schema.parameters ++ fy.row.variables) (required schema fy.row ++ denied fy.row ∷ []) [] (instance_of cy.part fy.row) ≡ true → ⊥
    never-added =
        never_contradictory candidate (schema.parameters ++ fy.row.variables) (required schema fy.row ++ denied fy.row ∷ []) [] (instance_of cy.part fy.row) full (objects ++ fy.values)
        (all-both (is_met full (objects ++ fy.values)) (required schema fy.row) (denied fy.row ∷ []) (required-met y true fy)
        (and_from (is_met full (objects ++ fy.values) (denied fy.row)) true (denied-met y true fy not-y (objects ++ fy.values) fy.row.places refl) refl))
        (λ pair none. absurd none)
        (choice-typed (schema.parameters ++ fy.row.variables) (objects ++ fy.values) (choice-append schema.parameters fy.row.variables objects fy.values typed fy.typed))
        (subst (λ (i : List ℕ). IsAtMostOne full candidate i) (sym (instance-is y true fy cy (objects ++ fy.values) fy.row.places refl)) most)

    module _ (d : EffectRow) (in-d : Among d schema.effects) (given : List Place) (fitting : Among given (fittings task (schema.parameters ++ fy.row.variables) d)) (balanced : balances candidate schema cy.part fy.row (row_with schema d given) ≡ true) where
      -- the objects of d's own variables
      abbrev values : Binding
      values = map (object_at (objects ++ fy.values)) given

      -- d, with the terms that fit
      abbrev row : EffectRow
      row = row_with schema d given

      abbrev deleted : GroundAtom
      deleted = atom_of d.predicate (objects_at (objects ++ values) d.places)

      same-places : objects_at (objects ++ fy.values) row.places ≡ objects_at (objects ++ values) d.places
      same-places =
          subst (λ (n : ℕ). objects_at (objects ++ fy.values) (map (with_terms n given) d.places) ≡ objects_at (objects ++ map (object_at (objects ++ fy.values)) given) d.places) many
          (places-given objects fy.values given d.places)

      abbrev has_partner : Bool
      has_partner = list_any (λ (other : Part). nat_eq other.predicate d.predicate && pointwise is_same_place (instance_of other row) (instance_of cy.part fy.row)) candidate.parts

      abbrev is_required : Bool
      is_required = is_listed (required schema fy.row) (Holds true d.predicate row.places)

      abbrev has_condition : Bool
      has_condition = list_all (is_listed (required schema fy.row)) row.condition

      abbrev stays_out : Bool
      stays_out = list_all (λ (a : EffectRow). never_restores candidate schema cy.part fy.row row (apart_from schema fy.row a)) schema.effects

      record Balance : Type 0 where
        deletes : d.adds ≡ false
        partner : has_partner ≡ true
        listed : is_required ≡ true
        conditions : has_condition ≡ true
        out : stays_out ≡ true

      balance : Balance
      balance =
          let one = and_parts (not d.adds && has_partner && is_required && has_condition) stays_out balanced in
          let two = and_parts (not d.adds && has_partner && is_required) has_condition one.0 in
          let three = and_parts (not d.adds && has_partner) is_required two.0 in
          let four = and_parts (not d.adds) has_partner three.0 in
          record { deletes = not-true d.adds four.0; partner = four.1; listed = three.1; conditions = two.1; out = one.1 }

      deleted-true : full deleted ≡ true
      deleted-true =
          ap (λ (os : List ℕ). full (atom_of d.predicate os)) (sym same-places)
          ∙ listed-passes (is_met full (objects ++ fy.values)) (required schema fy.row) (required-met y true fy) (Holds true d.predicate row.places) balance.listed

      row-places-within : list_all (place_within (length (objects ++ fy.values))) row.places ≡ true
      row-places-within = listed-passes (literal_within (length (objects ++ fy.values))) (required schema fy.row) (required-within y true fy) (Holds true d.predicate row.places) balance.listed

      deleted-covered : covers candidate instance deleted ≡ true
      deleted-covered =
          let found = passing (λ (other : Part). nat_eq other.predicate d.predicate && pointwise is_same_place (instance_of other row) (instance_of cy.part fy.row)) candidate.parts balance.partner in
          let sides = and_parts (nat_eq found.item.predicate d.predicate) (pointwise is_same_place (instance_of found.item row) (instance_of cy.part fy.row)) found.passes in
          let terms : instance_of found.item row ≡ instance_of cy.part fy.row = same_places (instance_of found.item row) (instance_of cy.part fy.row) sides.1 in
          covered candidate instance deleted found.item found.among (eqb-true found.item.predicate d.predicate sides.0)
          (ap (at_positions 0 found.item.places) (sym same-places)
          ∙ sym (at_positions-map (object_at (objects ++ fy.values)) (Object 0) found.item.places row.places)
          ∙ ap (map (object_at (objects ++ fy.values))) terms
          ∙ instance-is y true fy cy (objects ++ fy.values) fy.row.places refl)

      values-typed : is_choice d.variables values ≡ true
      values-typed =
          fittings-choose task (schema.parameters ++ fy.row.variables) (objects ++ fy.values) (choice-append schema.parameters fy.row.variables objects fy.values typed fy.typed) d.variables given fitting

      condition-met : are_met full (objects ++ values) d.condition ≡ true
      condition-met =
          sym (all-met-given full objects fy.values given d.condition)
          ∙ ap (λ (n : ℕ). are_met full (objects ++ fy.values) (map (literal_with n given) d.condition)) many
          ∙ all-weaker (is_listed (required schema fy.row)) (is_met full (objects ++ fy.values)) (listed-passes (is_met full (objects ++ fy.values)) (required schema fy.row) (required-met y true fy)) row.condition balance.conditions

      deleted-written : writes full false schema.effects objects deleted ≡ true
      deleted-written =
          any_passes (row_writes full false objects deleted) d schema.effects in-d
          (and_from (answers false d.adds) (list_any (λ values. is_on full deleted d (objects ++ values)) (choices d.variables)) (not_from_false d.adds balance.deletes)
          (any_passes (λ values. is_on full deleted d (objects ++ values)) values (choices d.variables) (choice-among d.variables values values-typed)
          (and_from (is_same_atom deleted deleted) (are_met full (objects ++ values) d.condition) (atom_same deleted) condition-met)))

      never-restored : (x : GroundAtom) → deleted ≡ x → Fires full schema objects true x → ⊥
      never-restored x same fa =
          let a = apart_from schema fy.row fa.row in
          let binding = objects ++ (fy.values ++ fa.values) in
          let long = choice-length fy.row.variables fy.values fy.typed in
          let here = all_passes (λ (a : EffectRow). never_restores candidate schema cy.part fy.row row (apart_from schema fy.row a)) fa.row schema.effects fa.among balance.out in
          let same-predicates : fa.row.predicate ≡ d.predicate = ap (λ (b : GroundAtom). b.predicate) (fa.is ∙ sym same) in
          let contradiction : is_contradictory candidate (ranges_with schema fy.row a) (added_beside schema fy.row a) (zip a.places row.places) (instance_of cy.part fy.row) ≡ true =
          elim (or_cases (not fa.row.adds || not (nat_eq fa.row.predicate d.predicate)) (is_contradictory candidate (ranges_with schema fy.row a) (added_beside schema fy.row a) (zip a.places row.places) (instance_of cy.part fy.row)) here) [
            | inr is ↦ is
            | inl other ↦
                elim (or_cases (not fa.row.adds) (not (nat_eq fa.row.predicate d.predicate)) other) [
                  | inl isnt ↦ absurd (both_ways fa.row.adds (not-true fa.row.adds isnt) fa.kind)
                  | inr differ ↦ absurd (both_ways (nat_eq fa.row.predicate d.predicate) (not-true (nat_eq fa.row.predicate d.predicate) differ) (eq-eqb fa.row.predicate d.predicate same-predicates))
                ]
          ] in
          let left : objects_at binding a.places ≡ objects_at (objects ++ fa.values) fa.row.places = places-apart x true fa fy.row fy.values long in
          let right : objects_at binding row.places ≡ objects_at (objects ++ fy.values) row.places =
          ap (λ (b : Binding). objects_at b row.places) (sym (append-assoc objects fy.values fa.values)) ∙ places-kept (objects ++ fy.values) fa.values row.places row-places-within in
          let os : objects_at (objects ++ fa.values) fa.row.places ≡ objects_at (objects ++ values) d.places = ap (λ (b : GroundAtom). b.objects) (fa.is ∙ sym same) in
          let met : are_met full binding (added_beside schema fy.row a) ≡ true =
          all-both (is_met full binding) (required schema fy.row) _ (met-first y true fy fa.values (required schema fy.row) (required-within y true fy) (required-met y true fy))
          (all-both (is_met full binding) a.condition (denied fy.row ∷ []) (met-apart x true fa fy.row fy.values long)
          (and_from (is_met full binding (denied fy.row)) true (denied-met y true fy not-y binding fy.row.places (places-first y true fy fa.values)) refl)) in
          never_contradictory candidate (ranges_with schema fy.row a) (added_beside schema fy.row a) (zip a.places row.places) (instance_of cy.part fy.row) full binding met
          (zip_equal (object_at binding) a.places row.places (left ∙ os ∙ sym same-places ∙ sym right))
          (choice-typed (ranges_with schema fy.row a) binding (choice-append schema.parameters (fy.row.variables ++ a.variables) objects (fy.values ++ fa.values) typed (choice-append fy.row.variables a.variables fy.values fa.values fy.typed fa.typed)))
          (subst (λ (i : List ℕ). IsAtMostOne full candidate i) (sym (instance-is y true fy cy binding fy.row.places (places-first y true fy fa.values))) most) contradiction

    -- where an atom of the instance was true, it is deleted, and not added again
    pub never-both : is_balanced_at task candidate schema cy.part fy.row ≡ true → (x : GroundAtom) → covers candidate instance x ≡ true → full x ≡ true →
        (Fires full schema objects true x) ⊎ (writes full false schema.effects objects x ≡ false) → ⊥
    never-both at x is-x yes-x kept =
        elim (or_cases (is_contradictory candidate (schema.parameters ++ fy.row.variables) (required schema fy.row ++ denied fy.row ∷ []) [] (instance_of cy.part fy.row)) (has_balance task candidate schema cy.part fy.row) at) [
          | inl contradiction ↦ never-added contradiction
          | inr has ↦
              let d = passing (λ d. list_any (λ given. balances candidate schema cy.part fy.row (row_with schema d given)) (fittings task (schema.parameters ++ fy.row.variables) d)) schema.effects has in
              let given = passing (λ given. balances candidate schema cy.part fy.row (row_with schema d.item given)) (fittings task (schema.parameters ++ fy.row.variables) d.item) d.passes in
              let same : deleted d.item d.among given.item given.among given.passes ≡ x =
              most (deleted d.item d.among given.item given.among given.passes) x (deleted-covered d.item d.among given.item given.among given.passes) is-x (deleted-true d.item d.among given.item given.among given.passes) yes-x in
              elim kept [
                | inl restored ↦ never-restored d.item d.among given.item given.among given.passes x same restored
                | inr stays ↦ both_ways (writes full false schema.effects objects x) stays (subst (λ (a : GroundAtom). writes full false schema.effects objects a ≡ true) same (deleted-written d.item d.among given.item given.among given.passes))
              ]
        ]

-- ---- the step

pub keeps_at_most_one : (task : Normal) (candidate : Candidate) → IsLawful task → is_basic task candidate ≡ true → is_accepted task candidate ≡ true → (instance : List ℕ) (state : State) (step : Step) (next : State) →
    Takes (normal_task task) state step next → IsAtMostOne state candidate instance → IsAtMostOne next candidate instance
keeps_at_most_one task candidate lawful basic accepted instance state step next takes most x y is-x is-y next-x next-y =
    let full = takes.full in
    let known = is_normal_step task step takes.of_task in
    let schema = step.schema in
    let objects = step.objects in
    let of_task : Among schema task.schemas = among_contains task.schemas schema known.declared in
    let sides = and_parts (is_light task candidate) (is_balanced task candidate) accepted in
    let light = all_passes (is_light_in candidate) schema task.schemas of_task sides.0 in
    let balanced = all_passes (λ schema. each_add candidate schema (is_balanced_at task candidate schema)) schema task.schemas of_task sides.1 in
    let lawful-schema = all_passes (is_schema task) schema task.schemas of_task lawful.schemas in
    -- a covered atom is basic, so it has its value in the full state
    let same : (a : GroundAtom) → covers candidate instance a ≡ true → full a ≡ state a =
    λ a is.
    let c = covering candidate instance a is in
    takes.is_full.basic a (subst (λ (p : ℕ). is_derived task p ≡ false) c.same_predicate (not-true (is_derived task c.part.predicate) (all_passes (λ (part : Part). not (is_derived task part.predicate)) c.part candidate.parts c.among basic))) in
    let most-full : IsAtMostOne full candidate instance =
    λ a b is-a is-b yes-a yes-b. most a b is-a is-b (sym (same a is-a) ∙ yes-a) (sym (same b is-b) ∙ yes-b) in
    let how : (a : GroundAtom) → next a ≡ true → (Fires full schema objects true a) ⊎ ((state a ≡ true) × (writes full false schema.effects objects a ≡ false)) =
    λ a is.
    elim (or_cases (writes full true schema.effects objects a) (state a && not (writes full false schema.effects objects a)) (sym (takes.follows a) ∙ is)) [
      | inl added ↦ inl (fires full schema objects true a added)
      | inr stays ↦ let parts = and_parts (state a) (not (writes full false schema.effects objects a)) stays in inr (parts.0, not-true (writes full false schema.effects objects a) parts.1)
    ] in
    let one : (a b : GroundAtom) → covers candidate instance a ≡ true → covers candidate instance b ≡ true → state a ≡ true → state b ≡ false → next a ≡ true → next b ≡ true → ⊥ =
    λ a b is-a is-b yes-a not-b next-a next-b.
    elim (how b next-b) [
      | inl fb ↦
          let cb = covering candidate instance b is-b in
          let kept : (Fires full schema objects true a) ⊎ (writes full false schema.effects objects a ≡ false) =
          elim (how a next-a) [ inl fires ↦ inl fires | inr stays ↦ inr stays.1 ] in
          never-both task candidate instance full most-full schema objects lawful-schema known.typed takes.applicable b is-b (same b is-b ∙ not-b) fb
          (add-passes candidate schema (is_balanced_at task candidate schema) balanced cb.part fb.row fb.among fb.kind cb.among (cb.same_predicate ∙ sym (ap (λ (a : GroundAtom). a.predicate) fb.is)))
          a is-a (same a is-a ∙ yes-a) kept
      | inr stays ↦ both_ways (state b) not-b stays.0
    ] in
    elim (cases_Bool (state x)) [
      | inl yes-x ↦
          elim (cases_Bool (state y)) [
            | inl yes-y ↦ most x y is-x is-y yes-x yes-y
            | inr not-y ↦ absurd (one x y is-x is-y yes-x not-y next-x next-y)
          ]
      | inr not-x ↦
          elim (cases_Bool (state y)) [
            | inl yes-y ↦ absurd (one y x is-y is-x yes-y not-x next-y next-x)
            | inr not-y ↦
                elim (how x next-x) [
                  | inl fx ↦
                      elim (how y next-y) [
                        | inl fy ↦
                            two-added task candidate instance full most-full schema objects lawful-schema known.typed takes.applicable light x y is-x is-y
                            (same x is-x ∙ not-x) (same y is-y ∙ not-y) fx fy
                        | inr stays ↦ absurd (both_ways (state y) not-y stays.0)
                      ]
                  | inr stays ↦ absurd (both_ways (state x) not-x stays.0)
                ]
          ]
    ]
