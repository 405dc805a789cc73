-- The rows of an effect are lawful, and the parts of its new predicates are known.
use Rattle.std.proofs.Common.{◌≡◌, ℕ, ◌+◌, ◌≤◌, Bool, true, false, not, ◌&&◌, List, [], ◌∷◌, ◌++◌, map, length, refl, sym, subst, arith}
use Rattle.std.specs.Prelude.{nat_lt, if◌then◌else◌}
use Rattle.std.specs.List.{list_all, flat_map}
use Rattle.std.proofs.lemmas.Bool.{and_parts, and_from, not-true, ltb-true, lt-ltb}
use Rattle.pddl_lexer.specs.declared.position.At.{At}
use Rattle.pddl_syntax.specs.declared.types.Atom.{Atom}
use Rattle.pddl_syntax.specs.declared.types.Domain.{Domain}
use Rattle.pddl_syntax.specs.declared.types.Effect.{Effect}
use Rattle.pddl_syntax.specs.declared.types.Named.{Named}
use Rattle.pddl_syntax.specs.declared.types.Problem.{Problem}
use Rattle.pddl_syntax.specs.declared.types.Typed.{Typed}
use Rattle.pddl_syntax.specs.Words.{Name}
use Rattle.pddl_syntax.specs.Holds.{is_derived}
use Rattle.pddl_syntax.proofs.ConditionCases.{Each}
use Rattle.fault_positions.specs.Mentions.{Mention, Written, use_of, written_predicates, in_condition, in_effect, effect_step}
use Rattle.fault_positions.specs.Names as names
use Rattle.fault_positions.specs.Scopes as scopes
use Rattle.type_checker.specs.Faultless.{has_predicate, has_objects}
use Rattle.type_checker.proofs.NoFaults.{left_empty, right_empty}
use Rattle.normal_task.specs.declared.task.EffectRow.{EffectRow}
use Rattle.normal_task.specs.declared.task.Literal.{Literal}
use Rattle.normal_task.specs.declared.task.Literal.TheVariants.{Holds, Equal}
use Rattle.normal_task.specs.declared.task.Normal.{Normal}
use Rattle.normal_task.specs.declared.task.Place.{Place}
use Rattle.normal_task.specs.declared.task.Place.TheVariants.{Variable, Object}
use Rattle.normal_task.specs.declared.task.PredicateRow.{PredicateRow}
use Rattle.normal_task.specs.Lawful.{is_range, is_predicate, has_arity, is_place, is_literal, is_effect}
use Rattle.normal_task.specs.Numbers.{predicate_number, range_of, ranges_of}
use Rattle.normal_task.specs.Parts.{Scope, scope_inside, Part, Made, in_turn, all_of, moved_place, moved, place_of, parts}
use Rattle.normal_task.specs.Normalised.{Rows, effect_row, written, row_with_variables, row_step, rows_of, moved_row, is_changed}
use Rattle.normal_task.proofs.Alls.{all-both, all-left, all-right, all-images}
use Rattle.normal_task.proofs.Mentioned.{is_known_mention, AreKnown}
use Rattle.normal_task.proofs.Scopes.{length-append, length-map, wider, inside-in_scope}
use Rattle.normal_task.proofs.Fits.{part_fits, place_within, within-wider, terms-within, all_of-fits, condition-fits}
use Rattle.normal_task.proofs.Bound.{in-inside, free-bound, terms-bound}
use Rattle.normal_task.proofs.EffectsMean.{turns, RequiredFits, fits-wider, fits-here, fits-also}
use Rattle.normal_task.proofs.EffectsFit.{AllInScope}
use Rattle.type_checker.proofs.EffectFolds.{by_folds}
use Rattle.normal_task.proofs.PredicateTable.{HasRow, HaveRows, numbered-left, numbered-right}
use Rattle.normal_task.proofs.KnownParts.{all-by_both, place_known, place-lawful, literal_known, literals-lawful, part_known, fresh_known, KnownFrom, all_of-known, ScopeKnown, HasTables, ranges-known, inside-known, terms-known, well_mentioned, AreWell, condition-known}

-- ---- lawful rows

module _ (task : Normal) where
  place-moved : (around by bound : ℕ) → around ≤ bound → (place : Place) → is_place task bound place ≡ true → is_place task (bound + by) (moved_place around by place) ≡ true
  place-moved around by bound in_it (Object object) is = is
  place-moved around by bound in_it (Variable number) is = cases (nat_lt number around)
    where
      cases : (b : Bool) → is_place task (bound + by) (Variable (if b then number else number + by)) ≡ true
      cases true = lt-ltb number (bound + by) (omega (arith, ltb-true number bound is))
      cases false = lt-ltb (number + by) (bound + by) (omega (arith, ltb-true number bound is))

  places-moved : (around by bound : ℕ) → around ≤ bound → (places : List Place) → list_all (is_place task bound) places ≡ true → list_all (is_place task (bound + by)) (map (moved_place around by) places) ≡ true
  places-moved around by bound in_it places is = all-images (is_place task bound) (is_place task (bound + by)) (moved_place around by) (place-moved around by bound in_it) places is

  literal-moved : (around by bound : ℕ) → around ≤ bound → (literal : Literal) → is_literal task bound literal ≡ true → is_literal task (bound + by) (moved around by literal) ≡ true
  literal-moved around by bound in_it (Holds positive predicate places) is =
      let parts = and_parts (is_predicate task (has_arity task (length places)) predicate) (list_all (is_place task bound) places) is in
      and_from (is_predicate task (has_arity task (length (map (moved_place around by) places))) predicate) (list_all (is_place task (bound + by)) (map (moved_place around by) places))
      (subst (λ (n : ℕ). is_predicate task (has_arity task n) predicate ≡ true) (sym (length-map (moved_place around by) places)) parts.0) (places-moved around by bound in_it places parts.1)
  literal-moved around by bound in_it (Equal positive left right) is =
      let parts = and_parts (is_place task bound left) (is_place task bound right) is in
      and_from (is_place task (bound + by) (moved_place around by left)) (is_place task (bound + by) (moved_place around by right)) (place-moved around by bound in_it left parts.0) (place-moved around by bound in_it right parts.1)

  abbrev pub on_basic : ℕ → PredicateRow → Bool
  on_basic arity row = has_arity task arity row && not row.derived && not row.fixed

  pub record RowLawful (bound : ℕ) (row : EffectRow) : Type 0 where
    pub ranges : list_all (is_range task) row.variables ≡ true
    pub condition : list_all (is_literal task bound) row.condition ≡ true
    pub places : list_all (is_place task bound) row.places ≡ true
    pub predicate : is_predicate task (on_basic (length row.places)) row.predicate ≡ true

  row-from : (around : ℕ) (row : EffectRow) → RowLawful (around + length row.variables) row → is_effect task around row ≡ true
  row-from around row is =
      let bound = around + length row.variables in
      and_from (list_all (is_range task) row.variables && list_all (is_literal task bound) row.condition && list_all (is_place task bound) row.places) (is_predicate task (on_basic (length row.places)) row.predicate)
      (and_from (list_all (is_range task) row.variables && list_all (is_literal task bound) row.condition) (list_all (is_place task bound) row.places)
      (and_from (list_all (is_range task) row.variables) (list_all (is_literal task bound) row.condition) is.ranges is.condition) is.places) is.predicate

  row-parts : (around : ℕ) (row : EffectRow) → is_effect task around row ≡ true → RowLawful (around + length row.variables) row
  row-parts around row is =
      let bound = around + length row.variables in
      let third = and_parts (list_all (is_range task) row.variables && list_all (is_literal task bound) row.condition && list_all (is_place task bound) row.places) (is_predicate task (on_basic (length row.places)) row.predicate) is in
      let second = and_parts (list_all (is_range task) row.variables && list_all (is_literal task bound) row.condition) (list_all (is_place task bound) row.places) third.0 in
      let first = and_parts (list_all (is_range task) row.variables) (list_all (is_literal task bound) row.condition) second.0 in
      record { ranges = first.0; condition = first.1; places = second.1; predicate = third.1 }

  -- the variables of a part of the precondition stand before those of the effect
  pub row-moved : (domain : Domain) (problem : Problem) (from by : ℕ) (row : EffectRow) → is_effect task from row ≡ true → is_effect task (from + by) (moved_row domain problem from by row) ≡ true
  row-moved domain problem from by row is =
      let parts = row-parts from row is in
      let bound = from + length row.variables in
      let same : bound + by ≡ from + by + length row.variables = omega arith in
      row-from (from + by) (moved_row domain problem from by row)
      record {
        ranges = parts.ranges;
        condition =
            subst (λ (n : ℕ). list_all (is_literal task n) (map (moved from by) row.condition) ≡ true) same
            (all-images (is_literal task bound) (is_literal task (bound + by)) (moved from by) (literal-moved from by bound (omega arith)) row.condition parts.condition);
        places = subst (λ (n : ℕ). list_all (is_place task n) (map (moved_place from by) row.places) ≡ true) same (places-moved from by bound (omega arith) row.places parts.places);
        predicate = subst (λ (n : ℕ). is_predicate task (on_basic n) row.predicate ≡ true) (sym (length-map (moved_place from by) row.places)) parts.predicate;
      }

  -- more variables in front
  row-inside : (domain : Domain) (problem : Problem) (around : ℕ) (ranges : List (List ℕ)) (row : EffectRow) → list_all (is_range task) ranges ≡ true → is_effect task (around + length ranges) row ≡ true →
      is_effect task around (row_with_variables domain problem ranges row) ≡ true
  row-inside domain problem around ranges row sorted is =
      let parts = row-parts (around + length ranges) row is in
      let same : around + length ranges + length row.variables ≡ around + length (ranges ++ row.variables) = omega (arith, length-append ranges row.variables) in
      row-from around (row_with_variables domain problem ranges row)
      record {
        ranges = all-both (is_range task) ranges row.variables sorted parts.ranges;
        condition = subst (λ (n : ℕ). list_all (is_literal task n) row.condition ≡ true) same parts.condition;
        places = subst (λ (n : ℕ). list_all (is_place task n) row.places ≡ true) same parts.places;
        predicate = parts.predicate;
      }

-- ---- effects

module _ (domain : Domain) (problem : Problem) (task : Normal) (tables : HasTables domain problem task) where
  abbrev base : ℕ
  base = length domain.predicates

  -- what is written is basic, and some action changes it
  abbrev pub is_change : Named → Bool
  is_change named = not (is_derived domain named.name) && is_changed domain problem named.name

  abbrev pub AreChanges : List Mention → Type 0
  AreChanges mentions = list_all (λ mention. list_all is_change (written_predicates mention)) mentions ≡ true

  pub record RowsKnown (around : ℕ) (made : Made EffectRow) : Type 0 where
    pub items : list_all (is_effect task around) made.items ≡ true
    pub fresh : list_all (fresh_known task) made.fresh ≡ true

  abbrev pub RequiredKnown : List (ℕ → ℕ → Made Part) → Type 0
  RequiredKnown required = Each (λ (cut : ℕ → ℕ → Made Part). (more : ℕ) → KnownFrom task base (cut more)) required

  known-here : (around : ℕ) (required : List (ℕ → ℕ → Made Part)) → RequiredKnown required → Each (KnownFrom task base) (map (λ cut. cut around) required)
  known-here around [] is = tt
  known-here around (cut ∷ required) is = (is.0 around, known-here around required is.1)

  known-also : (required : List (ℕ → ℕ → Made Part)) (cut : ℕ → ℕ → Made Part) → RequiredKnown required → ((more : ℕ) → KnownFrom task base (cut more)) → RequiredKnown (required ++ cut ∷ [])
  known-also [] cut is also = (also, tt)
  known-also (first ∷ required) cut is also = (is.0, known-also required cut is.1 also)

  -- what is told of an effect in a scope
  pub record Around (mentions : List Mention) (required : List (ℕ → ℕ → Made Part)) (in_scope : List Name) (scope : Scope) (around : ℕ) : Type 0 where
    pub declared : AreKnown domain problem mentions
    pub well : AreWell domain problem task tables mentions
    pub changes : AreChanges mentions
    pub bound : AllInScope domain problem in_scope scope around
    pub ranges : ScopeKnown task scope
    pub fit : RequiredFits domain problem around required
    pub required_known : RequiredKnown required

  abbrev EffectKnown : Rows domain problem → Unit {0} → (scopes.Scope → List At) → List Mention → Type 0
  EffectKnown rows unused unbound mentions =
      (required : List (ℕ → ℕ → Made Part)) (in_scope : List Name) (scope : Scope) (around : ℕ) → unbound in_scope ≡ [] → Around mentions required in_scope scope around →
      (next : ℕ) → HaveRows task base next (rows required scope around next).fresh → RowsKnown around (rows required scope around next)

  abbrev pub KnownOf : Effect → Type 0
  KnownOf effect = EffectKnown (rows_of domain problem effect) tt (scopes.in_effect effect) (in_effect effect)

  -- ---- atoms

  written-known : (adds : Bool) (atom : Atom) (required : List (ℕ → ℕ → Made Part)) (in_scope : List Name) (scope : Scope) (around : ℕ) → scopes.unbound_terms in_scope atom.terms ≡ [] →
      Around (Written atom ∷ []) required in_scope scope around → (next : ℕ) → HaveRows task base next (written domain problem adds atom required scope around next).fresh → RowsKnown around (written domain problem adds atom required scope around next)
  written-known adds atom required in_scope scope around unbound told next rows =
      let makes = map (λ cut. cut around) required in
      let fit = all_of-fits base around makes (fits-here domain problem around required told.fit) next in
      let is = all_of-known task base around makes (known-here around required told.required_known) next rows in
      let test : Part → Bool = λ part. is_effect task around (effect_row domain problem adds atom scope part) in
      record {
        items =
            all-images test (is_effect task around) (effect_row domain problem adds atom scope) (λ part one. one) (all_of around makes next).items
            (all-by_both (part_fits base around next) (part_known task) test row (all_of around makes next).items fit.items is.items);
        fresh = is.fresh;
      }
    where
      sides : (has_predicate domain (Written atom) ≡ true) × (has_objects domain problem (Written atom) ≡ true)
      sides = and_parts (has_predicate domain (Written atom)) (has_objects domain problem (Written atom)) (and_parts (well_mentioned domain problem task tables (Written atom)) true told.well).0

      change : (not (is_derived domain atom.predicate.name) ≡ true) × (is_changed domain problem atom.predicate.name ≡ true)
      change =
          and_parts (not (is_derived domain atom.predicate.name)) (is_changed domain problem atom.predicate.name)
          (and_parts (is_change atom.predicate) true (and_parts (is_change atom.predicate && true) true told.changes).0).0

      places : List Place
      places = map (place_of domain problem scope) atom.terms

      within : list_all (place_within around) places ≡ true
      within = terms-within domain problem scope around atom.terms (λ name is. told.bound name (terms-bound in_scope atom.terms unbound name is))

      predicate : is_predicate task (on_basic task (length places)) (predicate_number domain atom.predicate.name) ≡ true
      predicate =
          subst (λ (n : ℕ). is_predicate task (on_basic task n) (predicate_number domain atom.predicate.name) ≡ true) (sym (length-map (place_of domain problem scope) atom.terms))
          (tables.written (use_of atom) (not-true (is_derived domain atom.predicate.name) change.0) change.1 (and_parts (names.has_arity domain.predicates (use_of atom)) true sides.0).0)

      row : (part : Part) → part_fits base around next part ≡ true → part_known task part ≡ true → is_effect task around (effect_row domain problem adds atom scope part) ≡ true
      row part fit is =
          let inside = and_parts (list_all (is_range task) part.variables) (list_all (literal_known task) part.literals) is in
          let bound = around + length part.variables in
          row-from task around (effect_row domain problem adds atom scope part)
          record {
            ranges = inside.0;
            condition = literals-lawful task base bound next part.literals fit inside.1;
            places =
                all-by_both (place_within bound) (place_known task) (is_place task bound) (place-lawful task bound) places
                (within-wider around bound (omega arith) (Holds true 0 places) within) (terms-known domain problem task tables scope atom.terms sides.1);
            predicate = predicate;
          }

  -- ---- members

  abbrev mentions_of : List Effect → List Mention
  mentions_of members = flat_map (λ mentions. mentions) (map in_effect members)

  -- the same of a part of what is mentioned
  part-told : {whole part : List Mention} {required : List (ℕ → ℕ → Made Part)} {in_scope : List Name} {scope : Scope} {around : ℕ} →
      ((test : Mention → Bool) → list_all test whole ≡ true → list_all test part ≡ true) → Around whole required in_scope scope around → Around part required in_scope scope around
  part-told passes told = record {
    declared = passes (is_known_mention domain problem) told.declared;
    well = passes (well_mentioned domain problem task tables) told.well;
    changes = passes (λ mention. list_all is_change (written_predicates mention)) told.changes;
    bound = told.bound;
    ranges = told.ranges;
    fit = told.fit;
    required_known = told.required_known;
  }

  members-known : (members : List Effect) → Each KnownOf members → (required : List (ℕ → ℕ → Made Part)) (in_scope : List Name) (scope : Scope) (around : ℕ) → flat_map (λ member. member in_scope) (map scopes.in_effect members) ≡ [] →
      Around (mentions_of members) required in_scope scope around → (next : ℕ) → HaveRows task base next (in_turn (turns domain problem required scope around members) next).fresh → RowsKnown around (in_turn (turns domain problem required scope around members) next)
  members-known [] each required in_scope scope around unbound told next rows = record { items = refl; fresh = refl }
  members-known (member ∷ members) each required in_scope scope around unbound told next rows =
      let first = rows_of domain problem member required scope around next in
      let later = next + length first.fresh in
      let others = in_turn (turns domain problem required scope around members) later in
      let unbound_others = flat_map (λ member. member in_scope) (map scopes.in_effect members) in
      let one =
      each.0 required in_scope scope around (left_empty (scopes.in_effect member in_scope) unbound_others unbound)
      (part-told (λ test. all-left test (in_effect member) (mentions_of members)) told) next (numbered-left (HasRow task base) next first.fresh others.fresh rows) in
      let rest =
      members-known members each.1 required in_scope scope around (right_empty (scopes.in_effect member in_scope) unbound_others unbound)
      (part-told (λ test. all-right test (in_effect member) (mentions_of members)) told) later (numbered-right (HasRow task base) next first.fresh others.fresh rows) in
      record {
        items = all-both (is_effect task around) first.items others.items one.items rest.items;
        fresh = all-both (fresh_known task) first.fresh others.fresh one.fresh rest.fresh;
      }

  inside-lawful : (variables : List Typed) (around : ℕ) (rows : List EffectRow) → list_all (is_effect task (around + length variables)) rows ≡ true → list_all (is_effect task around) (map (row_with_variables domain problem (ranges_of domain problem variables)) rows) ≡ true
  inside-lawful variables around rows is =
      let ranges = ranges_of domain problem variables in
      all-images (is_effect task (around + length ranges)) (is_effect task around) (row_with_variables domain problem ranges)
      (λ row one. row-inside task domain problem around ranges row (ranges-known domain problem task tables variables) one) rows
      (subst (λ (n : ℕ). list_all (is_effect task (around + n)) rows ≡ true) (sym (length-map (range_of domain problem) variables)) is)

  -- the rows of an effect are lawful, and the parts of its new predicates are known
  pub effect-known : (effect : Effect) → KnownOf effect
  effect-known = by_folds (Rows domain problem) (Unit {0}) (scopes.Scope → List At) (List Mention) (row_step domain problem) (λ layer. tt) scopes.effect_step effect_step EffectKnown record {
    at_nothing = λ at required in_scope scope around unbound told next rows. record { items = refl; fresh = refl };
    at_add = λ atom required in_scope scope around unbound told next rows. written-known true atom required in_scope scope around unbound told next rows;
    at_delete = λ atom required in_scope scope around unbound told next rows. written-known false atom required in_scope scope around unbound told next rows;
    at_and = λ members at held required in_scope scope around unbound told next rows. members-known members held required in_scope scope around unbound told next rows;
    at_when = λ condition inside at held required in_scope scope around unbound told next rows.
        let here = left_empty (scopes.in_condition condition in_scope) (scopes.in_effect inside in_scope) unbound in
        let one = part-told (λ test. all-left test (in_condition condition) (in_effect inside)) told in
        let other = part-told (λ test. all-right test (in_condition condition) (in_effect inside)) told in
        held (required ++ (λ around. parts domain problem condition true scope around) ∷ []) in_scope scope around (right_empty (scopes.in_condition condition in_scope) (scopes.in_effect inside in_scope) unbound)
        record {
          declared = other.declared;
          well = other.well;
          changes = other.changes;
          bound = other.bound;
          ranges = other.ranges;
          fit =
              fits-also domain problem around required (λ around. parts domain problem condition true scope around) told.fit
              (λ more least.
              condition-fits domain problem condition one.declared true scope more (λ name free. wider scope around more name least (told.bound name (free-bound domain problem condition in_scope here name free))));
          required_known =
              known-also required (λ around. parts domain problem condition true scope around) told.required_known
              (λ more. condition-known domain problem task tables condition one.well true scope more told.ranges);
        } next rows;
    at_forall = λ variables inside at held required in_scope scope around unbound told next rows.
        let inner_scope = scope_inside domain problem variables around scope in
        let inner =
        held required (scopes.inside_of variables in_scope) inner_scope (around + length variables) unbound
        record {
          declared = (and_parts (true && true) _ told.declared).1;
          well = (and_parts (true && true) _ told.well).1;
          changes = (and_parts true _ told.changes).1;
          bound = λ name inside_it. inside-in_scope domain problem variables around scope name (λ unlisted. told.bound name (in-inside variables in_scope name inside_it unlisted));
          ranges = inside-known domain problem task tables variables around scope told.ranges;
          fit = fits-wider domain problem around (around + length variables) (omega arith) required told.fit;
          required_known = told.required_known;
        } next rows in
        record {
          items = inside-lawful variables around _ inner.items;
          fresh = inner.fresh;
        };
    at_increase = λ term cost at required in_scope scope around unbound told next rows. record { items = refl; fresh = refl };
  }
