-- The parts of a condition and of its new predicates are of objects, of variables with sorted ranges, and of predicates with as many arguments.
use Rattle.std.proofs.Common.{◌≡◌, ℕ, suc, ◌+◌, Bool, true, false, not, ◌&&◌, List, [], ◌∷◌, ◌++◌, map, length, Option, Some, None, refl, sym, ◌∙◌, subst}
use Rattle.std.specs.Prelude.{slice_get, ◌==◌, if◌then◌else◌}
use Rattle.std.specs.List.{list_all}
use Rattle.std.proofs.lemmas.Bool.{and_parts, and_from}
use Rattle.lists.specs.Members.{is_among}
use Rattle.pddl_syntax.specs.declared.types.Condition.{Condition}
use Rattle.pddl_syntax.specs.declared.types.Domain.{Domain}
use Rattle.pddl_syntax.specs.declared.types.Problem.{Problem}
use Rattle.pddl_syntax.specs.declared.types.Term.{Term}
use Rattle.pddl_syntax.specs.declared.types.Term.TheVariants as terms
use Rattle.pddl_syntax.specs.declared.types.Typed.{Typed}
use Rattle.pddl_syntax.specs.Words.{Name, is_same}
use Rattle.pddl_syntax.specs.Objects.{objects}
use Rattle.pddl_syntax.specs.Holds.{is_derived}
use Rattle.pddl_syntax.proofs.ConditionCases.{Each}
use Rattle.fault_positions.specs.Mentions.{Mention, Asked, Compared, Use, use_of}
use Rattle.fault_positions.specs.Names as names
use Rattle.type_checker.specs.Faultless.{has_predicate, is_known, has_objects}
use Rattle.type_checker.proofs.Declared.{object_among}
use Rattle.normal_task.specs.declared.task.Literal.{Literal}
use Rattle.normal_task.specs.declared.task.Literal.TheVariants.{Holds, Equal}
use Rattle.normal_task.specs.declared.task.Normal.{Normal}
use Rattle.normal_task.specs.declared.task.Place.{Place}
use Rattle.normal_task.specs.declared.task.Place.TheVariants.{Variable, Object}
use Rattle.normal_task.specs.declared.task.PredicateRow.{PredicateRow}
use Rattle.normal_task.specs.Lawful.{has_row, is_object, is_range, is_predicate, has_arity, is_place, is_literal}
use Rattle.normal_task.specs.Normalised.{is_changed}
use Rattle.normal_task.specs.Numbers.{object_names, object_number, predicate_number, range_of, ranges_of}
use Rattle.normal_task.specs.Parts.{Slot, Scope, with_slot, slots_for, renumbered, scope_inside, Part, Fresh, Made, in_turn, all_of, moved_place, moved, joined, paired, with_variables, Known, place_of, fresh_number, free_slots, exists_inside, none_inside}
pub use Rattle.normal_task.proofs.Alls.{all-by_both}
use Rattle.normal_task.proofs.Alls.{all-both, all-left, all-right, all-images, all-pieces}
use Rattle.normal_task.proofs.Fits.{place_within, literal_within, literal_from, fits}
use Rattle.normal_task.proofs.PredicateTable.{is_fresh_row, HasRow, HaveRows, numbered-left, numbered-right}
use Rattle.normal_task.proofs.Scopes.{length-map, hides}
use Rattle.normal_task.proofs.CutCases.{CutOf, Laws, cuts-shown}

module _ (task : Normal) where
  -- ---- places and literals

  abbrev pub place_known : Place → Bool
  place_known (Variable number) = true
  place_known (Object object) = is_object task object

  abbrev pub literal_known : Literal → Bool
  literal_known (Holds positive predicate places) = is_predicate task (has_arity task (length places)) predicate && list_all place_known places
  literal_known (Equal positive left right) = place_known left && place_known right

  pub place-lawful : (bound : ℕ) (place : Place) → place_within bound place ≡ true → place_known place ≡ true → is_place task bound place ≡ true
  place-lawful bound (Variable number) within is_known = within
  place-lawful bound (Object object) within is_known = is_known

  -- a literal is lawful where its variables are below the bound and the rest is known
  pub literal-lawful : (bound : ℕ) (literal : Literal) → literal_within bound literal ≡ true → literal_known literal ≡ true → is_literal task bound literal ≡ true
  literal-lawful bound (Holds positive predicate places) within is_known =
      let parts = and_parts (is_predicate task (has_arity task (length places)) predicate) (list_all place_known places) is_known in
      and_from (is_predicate task (has_arity task (length places)) predicate) (list_all (is_place task bound) places) parts.0
      (all-by_both (place_within bound) place_known (is_place task bound) (place-lawful bound) places within parts.1)
  literal-lawful bound (Equal positive left right) within is_known =
      let one = and_parts (place_within bound left) (place_within bound right) within in
      let other = and_parts (place_known left) (place_known right) is_known in
      and_from (is_place task bound left) (is_place task bound right) (place-lawful bound left one.0 other.0) (place-lawful bound right one.1 other.1)

  pub literals-lawful : (declared bound next : ℕ) (literals : List Literal) → list_all (fits declared bound next) literals ≡ true → list_all literal_known literals ≡ true → list_all (is_literal task bound) literals ≡ true
  literals-lawful declared bound next =
      all-by_both (fits declared bound next) literal_known (is_literal task bound)
      (λ literal fit is_known. literal-lawful bound literal (and_parts (literal_within bound literal) (literal_from declared next literal) fit).0 is_known)

  place-moved : (from by : ℕ) (place : Place) → place_known place ≡ true → place_known (moved_place from by place) ≡ true
  place-moved from by (Variable number) is = refl
  place-moved from by (Object object) is = is

  literal-moved : (from by : ℕ) (literal : Literal) → literal_known literal ≡ true → literal_known (moved from by literal) ≡ true
  literal-moved from by (Holds positive predicate places) is =
      let parts = and_parts (is_predicate task (has_arity task (length places)) predicate) (list_all place_known places) is in
      and_from (is_predicate task (has_arity task (length (map (moved_place from by) places))) predicate) (list_all place_known (map (moved_place from by) places))
      (subst (λ (n : ℕ). is_predicate task (has_arity task n) predicate ≡ true) (sym (length-map (moved_place from by) places)) parts.0)
      (all-images place_known place_known (moved_place from by) (place-moved from by) places parts.1)
  literal-moved from by (Equal positive left right) is =
      let parts = and_parts (place_known left) (place_known right) is in
      and_from (place_known (moved_place from by left)) (place_known (moved_place from by right)) (place-moved from by left parts.0) (place-moved from by right parts.1)

  -- ---- parts

  abbrev pub part_known : Part → Bool
  part_known part = list_all (is_range task) part.variables && list_all literal_known part.literals

  abbrev pub fresh_known : Fresh → Bool
  fresh_known fresh = list_all (is_range task) fresh.arguments && list_all part_known fresh.parts

  joined-known : (around : ℕ) (first second : Part) → part_known first ≡ true → part_known second ≡ true → part_known (joined around first second) ≡ true
  joined-known around first second one other =
      let left = and_parts (list_all (is_range task) first.variables) (list_all literal_known first.literals) one in
      let right = and_parts (list_all (is_range task) second.variables) (list_all literal_known second.literals) other in
      let literals = map (moved around (length first.variables)) second.literals in
      and_from (list_all (is_range task) (first.variables ++ second.variables)) (list_all literal_known (first.literals ++ literals))
      (all-both (is_range task) first.variables second.variables left.0 right.0)
      (all-both literal_known first.literals literals left.1
      (all-images literal_known literal_known (moved around (length first.variables)) (literal-moved around (length first.variables)) second.literals right.1))

  paired-known : (around : ℕ) (firsts seconds : List Part) → list_all part_known firsts ≡ true → list_all part_known seconds ≡ true → list_all part_known (paired around firsts seconds) ≡ true
  paired-known around firsts seconds ones others =
      all-pieces part_known part_known (λ first. map (joined around first) seconds)
      (λ first one. all-images part_known part_known (joined around first) (λ second other. joined-known around first second one other) seconds others) firsts ones

  with_variables-known : (ranges : List (List ℕ)) (parts : List Part) → list_all (is_range task) ranges ≡ true → list_all part_known parts ≡ true → list_all part_known (map (with_variables ranges) parts) ≡ true
  with_variables-known ranges parts sorted is =
      all-images part_known part_known (with_variables ranges)
      (λ part one.
      let sides = and_parts (list_all (is_range task) part.variables) (list_all literal_known part.literals) one in
      and_from (list_all (is_range task) (ranges ++ part.variables)) (list_all literal_known part.literals) (all-both (is_range task) ranges part.variables sorted sides.0) sides.1) parts is

  one-literal : (literal : Literal) → literal_known literal ≡ true → list_all part_known (record { variables = []; literals = literal ∷ [] } ∷ []) ≡ true
  one-literal literal is =
      let literals = and_from (literal_known literal) true is refl in
      and_from (list_all (is_range task) [] && (literal_known literal && true)) true (and_from (list_all (is_range task) []) (literal_known literal && true) refl literals) refl

  -- ---- what is made

  pub predicate-weaker : (test other : PredicateRow → Bool) → ((row : PredicateRow) → test row ≡ true → other row ≡ true) → (number : ℕ) → is_predicate task test number ≡ true → is_predicate task other number ≡ true
  predicate-weaker test other weaker number = by (slice_get task.predicates number)
    where
      by : (row : Option PredicateRow) → has_row task test row ≡ true → has_row task other row ≡ true
      by None is = is
      by (Some row) is = weaker row is

  pub record MadeKnown (made : Made Part) : Type 0 where
    pub items : list_all part_known made.items ≡ true
    pub fresh : list_all fresh_known made.fresh ≡ true

  module _ (base : ℕ) where
    -- what is made is known where its new predicates have their rows
    abbrev pub KnownFrom : (ℕ → Made Part) → Type 0
    KnownFrom make = (next : ℕ) → HaveRows task base next (make next).fresh → MadeKnown (make next)

    pub in_turn-known : (makes : List (ℕ → Made Part)) → Each KnownFrom makes → KnownFrom (in_turn makes)
    in_turn-known [] each next rows = record { items = refl; fresh = refl }
    in_turn-known (first ∷ more) each next rows =
        let later = next + length (first next).fresh in
        let one = each.0 next (numbered-left (HasRow task base) next (first next).fresh (in_turn more later).fresh rows) in
        let rest = in_turn-known more each.1 later (numbered-right (HasRow task base) next (first next).fresh (in_turn more later).fresh rows) in
        record {
          items = all-both part_known (first next).items (in_turn more later).items one.items rest.items;
          fresh = all-both fresh_known (first next).fresh (in_turn more later).fresh one.fresh rest.fresh;
        }

    pub all_of-known : (around : ℕ) (makes : List (ℕ → Made Part)) → Each KnownFrom makes → KnownFrom (all_of around makes)
    all_of-known around [] each next rows = record { items = refl; fresh = refl }
    all_of-known around (first ∷ more) each next rows =
        let later = next + length (first next).fresh in
        let one = each.0 next (numbered-left (HasRow task base) next (first next).fresh (all_of around more later).fresh rows) in
        let rest = all_of-known around more each.1 later (numbered-right (HasRow task base) next (first next).fresh (all_of around more later).fresh rows) in
        record {
          items = paired-known around (first next).items (all_of around more later).items one.items rest.items;
          fresh = all-both fresh_known (first next).fresh (all_of around more later).fresh one.fresh rest.fresh;
        }

  -- ---- scopes

  abbrev pub slot_known : Slot → Bool
  slot_known slot = is_range task slot.range

  abbrev pub ScopeKnown : Scope → Type 0
  ScopeKnown scope = list_all slot_known scope ≡ true

  renumbered-known : (slots : List Slot) (place : ℕ) (outer : Scope) → ScopeKnown slots → ScopeKnown outer → ScopeKnown (renumbered slots place outer)
  renumbered-known [] place outer is around = around
  renumbered-known (slot ∷ slots) place outer is around =
      let parts = and_parts (slot_known slot) (list_all slot_known slots) is in
      renumbered-known slots (suc place) (with_slot place slot.variable slot.range outer) parts.1 (and_from (slot_known slot) (list_all slot_known outer) parts.0 around)

  slots-known : (asks : Name → Bool) (scope : Scope) → ScopeKnown scope → ScopeKnown (slots_for asks scope)
  slots-known asks [] is = refl
  slots-known asks (slot ∷ outer) is =
      let parts = and_parts (slot_known slot) (list_all slot_known outer) is in
      all-both slot_known (slots_for (hides slot asks) outer) (if asks slot.variable then slot ∷ [] else []) (slots-known (hides slot asks) outer parts.1) (by (asks slot.variable) parts.0)
    where
      by : (b : Bool) → slot_known slot ≡ true → list_all slot_known (if b then slot ∷ [] else []) ≡ true
      by true here = and_from (slot_known slot) true here refl
      by false here = refl

-- what stands in the tables of a task: predicates with as many arguments, objects, and ranges of variables
pub record HasTables (domain : Domain) (problem : Problem) (task : Normal) : Type 0 where
  pub predicates : (usage : Use) → names.has_arity domain.predicates usage ≡ true → is_predicate task (has_arity task usage.arity) (predicate_number domain usage.name.name) ≡ true
  pub written : (usage : Use) → is_derived domain usage.name.name ≡ false → is_changed domain problem usage.name.name ≡ true → names.has_arity domain.predicates usage ≡ true →
      is_predicate task (λ row. has_arity task usage.arity row && not row.derived && not row.fixed) (predicate_number domain usage.name.name) ≡ true
  pub objects : (name : Name) → is_among is_same (object_names domain problem) name ≡ true → is_object task (object_number domain problem name) ≡ true
  pub ranges : (variable : Typed) → is_range task (range_of domain problem variable) ≡ true

module _ (domain : Domain) (problem : Problem) (task : Normal) (tables : HasTables domain problem task) where
  abbrev base : ℕ
  base = length domain.predicates

  pub ranges-known : (variables : List Typed) → list_all (is_range task) (ranges_of domain problem variables) ≡ true
  ranges-known [] = refl
  ranges-known (variable ∷ variables) = and_from (is_range task (range_of domain problem variable)) (list_all (is_range task) (ranges_of domain problem variables)) (tables.ranges variable) (ranges-known variables)

  pub inside-known : (variables : List Typed) (place : ℕ) (outer : Scope) → ScopeKnown task outer → ScopeKnown task (scope_inside domain problem variables place outer)
  inside-known [] place outer is = is
  inside-known (variable ∷ variables) place outer is =
      inside-known variables (suc place) (with_slot place variable.name.name (range_of domain problem variable) outer) (and_from (is_range task (range_of domain problem variable)) (list_all (slot_known task) outer) (tables.ranges variable) is)

  term-known : (scope : Scope) (term : Term) → is_known domain problem term ≡ true → place_known task (place_of domain problem scope term) ≡ true
  term-known scope (terms.Variable variable) is = refl
  term-known scope (terms.Object object) is = tables.objects object.name (sym (object_among (objects domain problem) object.name) ∙ is)

  pub terms-known : (scope : Scope) (list : List Term) → list_all (is_known domain problem) list ≡ true → list_all (place_known task) (map (place_of domain problem scope) list) ≡ true
  terms-known scope list is = all-images (is_known domain problem) (place_known task) (place_of domain problem scope) (term-known scope) list is

  -- ---- conditions

  abbrev pub well_mentioned : Mention → Bool
  well_mentioned mention = has_predicate domain mention && has_objects domain problem mention

  abbrev pub AreWell : List Mention → Type 0
  AreWell mentions = list_all well_mentioned mentions ≡ true

  -- what is made is known where its new predicates have their rows
  abbrev Shown : ℕ → ℕ → Made Part → Type 0
  Shown around next made = HaveRows task base next made.fresh → MadeKnown task made

  exists-known : (variables : List Typed) (inside : Known) (positive : Bool) (scope : Scope) (around : ℕ) → ((scope : Scope) (around : ℕ) → ScopeKnown task scope → KnownFrom task base (inside.cut positive scope around)) →
      ScopeKnown task scope → KnownFrom task base (exists_inside domain problem variables inside positive scope around)
  exists-known variables inside positive scope around held is next rows =
      let inner = held (scope_inside domain problem variables around scope) (around + length variables) (inside-known variables around scope is) next rows in
      record {
        items = with_variables-known task (ranges_of domain problem variables) (inside.cut positive (scope_inside domain problem variables around scope) (around + length variables) next).items (ranges-known variables) inner.items;
        fresh = inner.fresh;
      }

  all-variables : (slots : List Slot) → list_all (place_known task) (map (λ (slot : Slot). Variable slot.place) slots) ≡ true
  all-variables [] = refl
  all-variables (slot ∷ slots) = all-variables slots

  fresh-arity : (slots : List Slot) (next : ℕ) → is_predicate task (is_fresh_row (length (map (λ (slot : Slot). slot.range) slots))) (base + next) ≡ true →
      literal_known task (Holds false (fresh_number domain problem next) (map (λ (slot : Slot). Variable slot.place) slots)) ≡ true
  fresh-arity slots next row =
      let same = length-map (λ (slot : Slot). slot.range) slots ∙ sym (length-map (λ (slot : Slot). Variable slot.place) slots) in
      and_from (is_predicate task (has_arity task (length (map (λ (slot : Slot). Variable slot.place) slots))) (base + next)) (list_all (place_known task) (map (λ (slot : Slot). Variable slot.place) slots))
      (subst (λ (n : ℕ). is_predicate task (has_arity task n) (base + next) ≡ true) same
      (predicate-weaker task (is_fresh_row (length (map (λ (slot : Slot). slot.range) slots))) (has_arity task (length (map (λ (slot : Slot). slot.range) slots)))
      (λ row is. (and_parts (row.arity == length (map (λ (slot : Slot). slot.range) slots)) row.derived is).0) (base + next) row)) (all-variables slots)

  none-known : (variables : List Typed) (inside : Known) (positive : Bool) (scope : Scope) (around : ℕ) → ((scope : Scope) (around : ℕ) → ScopeKnown task scope → KnownFrom task base (inside.cut positive scope around)) →
      ScopeKnown task scope → KnownFrom task base (none_inside domain problem variables inside positive scope around)
  none-known variables inside positive scope around held is next rows =
      let arguments = free_slots domain problem variables inside scope in
      let arguments_are = slots-known task _ scope is in
      let made = exists_inside domain problem variables inside positive (renumbered arguments 0 []) (length arguments) (suc next) in
      let body = exists-known variables inside positive (renumbered arguments 0 []) (length arguments) held (renumbered-known task arguments 0 [] arguments_are refl) (suc next) rows.1 in
      let ranges = all-images (slot_known task) (is_range task) (λ (slot : Slot). slot.range) (λ slot one. one) arguments arguments_are in
      record {
        items = one-literal task (Holds false (fresh_number domain problem next) (map (λ (slot : Slot). Variable slot.place) arguments)) (fresh-arity arguments next rows.0);
        fresh =
            and_from (fresh_known task (record { arguments = map (λ (slot : Slot). slot.range) arguments; parts = made.items })) (list_all (fresh_known task) made.fresh)
            (and_from (list_all (is_range task) (map (λ (slot : Slot). slot.range) arguments)) (list_all (part_known task) made.items) ranges body.items) body.fresh;
      }

  abbrev ScopeHere : (Name → Bool) → Scope → ℕ → Type 0
  ScopeHere is_free scope around = ScopeKnown task scope

  laws : Laws domain problem AreWell ScopeHere Shown
  laws = record {
    told_left = all-left well_mentioned;
    told_right = all-right well_mentioned;
    within_left = λ one other scope around is. is;
    within_right = λ one other scope around is. is;
    at_atom = λ atom mentioned positive scope around is next rows.
        let parts = and_parts (has_predicate domain (Asked atom)) (has_objects domain problem (Asked atom)) (and_parts (well_mentioned (Asked atom)) true mentioned).0 in
        let declared = (and_parts (names.has_arity domain.predicates (use_of atom)) true parts.0).0 in
        let number = predicate_number domain atom.predicate.name in
        record {
          items =
              one-literal task (Holds positive number (map (place_of domain problem scope) atom.terms))
              (and_from (is_predicate task (has_arity task (length (map (place_of domain problem scope) atom.terms))) number) (list_all (place_known task) (map (place_of domain problem scope) atom.terms))
              (subst (λ (n : ℕ). is_predicate task (has_arity task n) number ≡ true) (sym (length-map (place_of domain problem scope) atom.terms)) (tables.predicates (use_of atom) declared))
              (terms-known scope atom.terms parts.1));
          fresh = refl;
        };
    at_equal = λ left right at mentioned positive scope around is next rows.
        let parts = and_parts (has_predicate domain (Compared left right)) (has_objects domain problem (Compared left right)) (and_parts (well_mentioned (Compared left right)) true mentioned).0 in
        let one = and_parts (is_known domain problem left) (is_known domain problem right && true) parts.1 in
        record {
          items =
              one-literal task (Equal positive (place_of domain problem scope left) (place_of domain problem scope right))
              (and_from (place_known task (place_of domain problem scope left)) (place_known task (place_of domain problem scope right))
              (term-known scope left one.0) (term-known scope right (and_parts (is_known domain problem right) true one.1).0));
          fresh = refl;
        };
    in_turn_shown = λ around. in_turn-known task base;
    all_of_shown = all_of-known task base;
    exists_shown = exists-known;
    none_shown = none-known;
  }

  -- the parts of a condition, and those of its new predicates, are known
  pub condition-known : (condition : Condition) → CutOf domain problem AreWell ScopeHere Shown condition
  condition-known = cuts-shown domain problem AreWell ScopeHere Shown laws
