-- The ground task of a lawful normal task is lawful.
use Rattle.std.proofs.Common.{◌≡◌, ℕ, zero, suc, ◌+◌, Bool, true, false, not, ◌&&◌, ◌||◌, inl, inr, List, [], ◌∷◌, ◌++◌, map, take, length, get_or, Option, Some, None, refl, sym, ap, ◌∙◌, subst, arith, length-append}
use Rattle.std.specs.Prelude.{filter, nat_le, ◌==◌, nat_eq, unwrap_or, slice_get, if◌then◌else◌}
use Rattle.std.specs.Cmp.Lexicographic.{pointwise}
use Rattle.std.specs.List.{list_all, list_any, flat_map}
use Rattle.std.specs.Option.{option_map}
use Rattle.std.proofs.lemmas.Bool.{and_parts, and_from, or_left, true≢false, ltb-true, leb-true}
use Rattle.std.proofs.lemmas.List.{length-map, length-take-le}
use Rattle.std.proofs.lemmas.List.Sorted.{Contains-permutation, IsPermutation-sym}
use Rattle.lists.proofs.Items.{Among, among_at, among_contains, contains_among, among_map, map_source, filter_among, flat_map_piece, all_passes, each_passes, any_passes, none_passes}
use Rattle.normal_task.specs.declared.task.AxiomRow.{AxiomRow as AxiomSchema}
use Rattle.normal_task.specs.declared.task.CostRow.{CostRow}
use Rattle.normal_task.specs.declared.task.CostRow.TheVariants as costs
use Rattle.normal_task.specs.declared.task.EffectRow.{EffectRow as EffectSchema}
use Rattle.normal_task.specs.declared.task.GroundAtom.{GroundAtom}
use Rattle.normal_task.specs.declared.task.Literal.{Literal}
use Rattle.normal_task.specs.declared.task.Literal.TheVariants.{Holds, Equal}
use Rattle.normal_task.specs.declared.task.Normal.{Normal}
use Rattle.normal_task.specs.declared.task.Place.{Place}
use Rattle.normal_task.specs.declared.task.Place.TheVariants.{Variable, Object}
use Rattle.normal_task.specs.declared.task.PredicateRow.{PredicateRow}
use Rattle.normal_task.specs.declared.task.Schema.{Schema}
use Rattle.normal_task.specs.declared.task.ValueRow.{ValueRow}
use Rattle.normal_task.specs.Lawful as normal
use Rattle.normal_task.specs.Lawful.{most, is_word, is_rising, differ}
use Rattle.normal_task.specs.Meaning.{atom_of, is_same_atom, Binding, object_at, objects_at, choices, answers, value_in, value_of, object_name}
use Rattle.normal_task.proofs.Alls.{all-both, all-images, all-pieces}
use Rattle.ground_task.specs.declared.types.GoalRow.TheVariants.{Never, All}
use Rattle.ground_task.specs.declared.types.Ground.{Ground}
use Rattle.ground_task.specs.declared.types.GroundAction.{GroundAction}
use Rattle.ground_task.specs.declared.types.GroundAxiom.{GroundAxiom}
use Rattle.ground_task.specs.declared.types.GroundEffect.{GroundEffect}
use Rattle.ground_task.specs.GroundTask.{effect_row, action_row, axiom_row}
use Rattle.ground_task.specs.Instances.{signed_atom, signed_atoms, condition_of, all_fit, effect_of, effects_of, action_of, is_instance, actions_of, axiom_of, axioms_of, instance_task, static_settling, IsGroundTask}
use Rattle.ground_task.specs.Lawful.{is_object, is_predicate, is_atom, is_basic_atom, is_derived_atom, is_condition, is_effect, is_cost, is_action, is_axiom, is_goal, is_below, asks_below, IsLawful}
use Rattle.ground_task.specs.Literals.{EffectRow, ActionRow, AxiomRow}
use Rattle.ground_task.specs.Settled.{Settling, is_open, kept_condition, kept_effect, kept_effects, kept_action, kept_actions, kept_axiom, kept_axioms, kept_goal}
use Rattle.ground_task.proofs.Names.{is_shown}
use Rattle.lists.specs.Names.{is_name}

-- ---- lists without repeats

pub differ_filter : {A : Type 0} (same : A → A → Bool) (test : A → Bool) (items : List A) → differ same items ≡ true → differ same (filter test items) ≡ true
differ_filter same test [] once = refl
differ_filter {A} same test (item ∷ items) once = by (test item) (and_parts (not (list_any (same item) items)) (differ same items) once).0 (differ_filter same test items (and_parts (not (list_any (same item) items)) (differ same items) once).1)
  where
    new : not (list_any (same item) items) ≡ true → (other : A) → Among other (filter test items) → same item other ≡ true → ⊥
    new none other among is =
        let some = any_passes (same item) other items (filter_among test other items among).0 is in
        true≢false (sym none ∙ ap not some)

    by : (b : Bool) → not (list_any (same item) items) ≡ true → differ same (filter test items) ≡ true → differ same (if b then item ∷ filter test items else filter test items) ≡ true
    by false none rest = rest
    by true none rest =
        and_from (not (list_any (same item) (filter test items))) (differ same (filter test items)) (ap not (none_passes (same item) (filter test items) (new none))) rest

pub all_take : {X : Type 0} (test : X → Bool) (count : ℕ) (items : List X) → list_all test items ≡ true → list_all test (take count items) ≡ true
all_take test zero items all = refl
all_take test (suc count) [] all = refl
all_take test (suc count) (item ∷ items) all =
    let parts = and_parts (test item) (list_all test items) all in
    and_from (test item) (list_all test (take count items)) parts.0 (all_take test count items parts.1)

-- ---- rows of predicates

abbrev row_is : (PredicateRow → Bool) → Option PredicateRow → Bool
row_is test row = unwrap_or (option_map test row) false

row_of : (task : Normal) (test : PredicateRow → Bool) (row : Option PredicateRow) → normal.has_row task test row ≡ row_is test row
row_of task test None = refl
row_of task test (Some row) = refl

row_any : (test : PredicateRow → Bool) (row : Option PredicateRow) → row_is test row ≡ true → row_is (λ row. true) row ≡ true
row_any test None is = is
row_any test (Some row) is = refl

-- a predicate that has a row, isn't static and passes both tests
row_open : (test other : PredicateRow → Bool) (row : Option PredicateRow) → row_is test row ≡ true → not (row_is (λ row. row.fixed) row) ≡ true → row_is other row ≡ true →
    row_is (λ row. (test row && not row.fixed) && other row) row ≡ true
row_open test other None is free also = absurd (true≢false (sym is))
row_open test other (Some row) is free also = and_from (test row && not row.fixed) (other row) (and_from (test row) (not row.fixed) is free) also

row_first : (test other : PredicateRow → Bool) (row : Option PredicateRow) → row_is (λ row. test row && other row) row ≡ true → row_is test row ≡ true
row_first test other None is = is
row_first test other (Some row) is = (and_parts (test row) (other row) is).0

row_second : (test other : PredicateRow → Bool) (row : Option PredicateRow) → row_is (λ row. test row && other row) row ≡ true → row_is other row ≡ true
row_second test other None is = is
row_second test other (Some row) is = (and_parts (test row) (other row) is).1

-- ---- atoms of literals

-- the atoms of literals that pass a test
pub signed : (test : Literal → Bool) (other : GroundAtom → Bool) (sign : Bool) (binding : Binding) →
    ((positive : Bool) (predicate : ℕ) (places : List Place) → test (Holds positive predicate places) ≡ true → other (atom_of predicate (objects_at binding places)) ≡ true) →
    (literals : List Literal) → list_all test literals ≡ true → list_all other (signed_atoms sign binding literals) ≡ true
signed test other sign binding each = all-pieces test other (signed_atom sign binding) one
  where
    one : (literal : Literal) → test literal ≡ true → list_all other (signed_atom sign binding literal) ≡ true
    one (Equal positive left right) passes = refl
    one (Holds positive predicate places) passes = cases (answers sign positive)
      where
        cases : (b : Bool) → list_all other (if b then atom_of predicate (objects_at binding places) ∷ [] else []) ≡ true
        cases false = refl
        cases true = and_from (other (atom_of predicate (objects_at binding places))) true (each positive predicate places passes) refl

module _ (task : Normal) (lawful : normal.IsLawful task) (result : Ground) (is : IsGroundTask task result) where
  abbrev by : Settling GroundAtom GroundAtom
  by = static_settling task

  -- the ground task, whose tables are those of the normal task
  abbrev whole : Ground
  whole =
      record {
        normal_predicates = task.predicates;
        objects = task.objects;
        init = filter by.keeps task.init;
        actions = result.actions;
        axioms = result.axioms;
        goal = kept_goal by (instance_task task).goal;
        metric = task.metric;
      }

  same : whole ≡ result
  same = λ i.
      record {
        normal_predicates = sym is.predicates i;
        objects = sym is.objects i;
        init = sym is.init i;
        actions = result.actions;
        axioms = result.axioms;
        goal = sym is.goal i;
        metric = sym is.metric i;
      }

  -- ---- objects

  -- objects of the task, so many of them
  record IsBinding (count : ℕ) (binding : Binding) : Type 0 where
    objects : list_all (is_object whole) binding ≡ true
    size : length binding ≡ count

  chosen : (ranges : List (List ℕ)) (objects : List ℕ) → Among objects (choices ranges) → list_all (normal.is_range task) ranges ≡ true → IsBinding (length ranges) objects
  chosen [] objects (inr none) all = absurd none
  chosen [] objects (inl here) all = subst (IsBinding 0) here (record { objects = refl; size = refl })
  chosen (range ∷ ranges) objects among all =
      let piece = flat_map_piece (λ object. map (λ others. object ∷ others) (choices ranges)) range objects among in
      let from = map_source (λ others. piece.source ∷ others) (choices ranges) objects piece.inside in
      let parts = and_parts (normal.is_range task range) (list_all (normal.is_range task) ranges) all in
      let rest = chosen ranges from.source from.among parts.1 in
      let object = all_passes (is_object whole) piece.source range piece.among (and_parts (list_all (normal.is_object task) range) (is_rising range) parts.0).0 in
      subst (IsBinding (length (range ∷ ranges))) from.gives (record { objects = and_from (is_object whole piece.source) (list_all (is_object whole) from.source) object rest.objects; size = ap suc rest.size })

  more : (count others : ℕ) (binding objects : Binding) → IsBinding count binding → IsBinding others objects → IsBinding (count + others) (binding ++ objects)
  more count others binding objects first second = record {
    objects = all-both (is_object whole) binding objects first.objects second.objects;
    size = let size = length-append binding objects in let one = first.size in let two = second.size in cc;
  }

  placed : (count : ℕ) (binding : Binding) → IsBinding count binding → (place : Place) → normal.is_place task count place ≡ true → is_object whole (object_at binding place) ≡ true
  placed count binding bound (Variable number) within =
      all_passes (is_object whole) (get_or binding number 0) binding (among_at binding number 0 (let below = ltb-true number count within in let size = bound.size in omega (arith, below, size))) bound.objects
  placed count binding bound (Object object) within = within

  all_placed : (count : ℕ) (binding : Binding) → IsBinding count binding → (places : List Place) → list_all (normal.is_place task count) places ≡ true → list_all (is_object whole) (objects_at binding places) ≡ true
  all_placed count binding bound [] all = refl
  all_placed count binding bound (place ∷ places) all =
      let parts = and_parts (normal.is_place task count place) (list_all (normal.is_place task count) places) all in
      and_from (is_object whole (object_at binding place)) (list_all (is_object whole) (objects_at binding places)) (placed count binding bound place parts.0) (all_placed count binding bound places parts.1)

  -- ---- atoms

  -- an atom of the task, static or not
  abbrev is_known : GroundAtom → Bool
  is_known atom = list_all (is_object whole) atom.objects && is_predicate whole (λ row. row.arity == length atom.objects) atom.predicate

  -- an atom that is kept
  kept_is : (test : PredicateRow → Bool) (atom : GroundAtom) → is_known atom ≡ true → by.keeps atom ≡ true → is_predicate whole test atom.predicate ≡ true → is_atom whole test atom ≡ true
  kept_is test atom known kept passes =
      let parts = and_parts (list_all (is_object whole) atom.objects) (is_predicate whole (λ row. row.arity == length atom.objects) atom.predicate) known in
      and_from (list_all (is_object whole) atom.objects) (is_predicate whole (λ row. (row.arity == length atom.objects && not row.fixed) && test row) atom.predicate) parts.0
      (row_open (λ row. row.arity == length atom.objects) test (slice_get task.predicates atom.predicate) parts.1 kept passes)

  kept_atom : (atom : GroundAtom) → is_known atom ≡ true → by.keeps atom ≡ true → is_atom whole (λ row. true) atom ≡ true
  kept_atom atom known kept =
      let parts = and_parts (list_all (is_object whole) atom.objects) (is_predicate whole (λ row. row.arity == length atom.objects) atom.predicate) known in
      kept_is (λ row. true) atom known kept (row_any (λ row. row.arity == length atom.objects) (slice_get task.predicates atom.predicate) parts.1)

  -- an atom with objects at places
  placed_known : (count : ℕ) (binding : Binding) → IsBinding count binding → (predicate : ℕ) (places : List Place) →
      list_all (normal.is_place task count) places ≡ true → is_predicate whole (λ row. row.arity == length places) predicate ≡ true → is_known (atom_of predicate (objects_at binding places)) ≡ true
  placed_known count binding bound predicate places within row =
      and_from (list_all (is_object whole) (objects_at binding places)) (is_predicate whole (λ row. row.arity == length (objects_at binding places)) predicate)
      (all_placed count binding bound places within)
      (ap (λ size. is_predicate whole (λ row. row.arity == size) predicate) (length-map places (object_at binding)) ∙ row)

  literal_known : (count : ℕ) (binding : Binding) → IsBinding count binding → (positive : Bool) (predicate : ℕ) (places : List Place) →
      normal.is_literal task count (Holds positive predicate places) ≡ true → is_known (atom_of predicate (objects_at binding places)) ≡ true
  literal_known count binding bound positive predicate places literal =
      let parts = and_parts (normal.is_predicate task (normal.has_arity task (length places)) predicate) (list_all (normal.is_place task count) places) literal in
      placed_known count binding bound predicate places parts.1
      (sym (row_of task (normal.has_arity task (length places)) (slice_get task.predicates predicate)) ∙ parts.0)

  kept_atoms : (test : GroundAtom → Bool) (atoms : List GroundAtom) → ((atom : GroundAtom) → is_known atom ≡ true → by.keeps atom ≡ true → test atom ≡ true) → list_all is_known atoms ≡ true →
      list_all test (map by.named (filter by.keeps atoms)) ≡ true
  kept_atoms test atoms each all = each_passes test (map by.named (filter by.keeps atoms)) (λ atom among.
      let from = map_source by.named (filter by.keeps atoms) atom among in
      let found = filter_among by.keeps from.source atoms from.among in
      ap test (sym from.gives) ∙ each from.source (all_passes is_known from.source atoms found.0 all) found.1)

  condition_is : (count : ℕ) (binding : Binding) → IsBinding count binding → (literals : List Literal) → list_all (normal.is_literal task count) literals ≡ true →
      is_condition whole (kept_condition by (condition_of binding literals)) ≡ true
  condition_is count binding bound literals all =
      let atoms : (sign : Bool) → list_all (is_atom whole (λ row. true)) (map by.named (filter by.keeps (signed_atoms sign binding literals))) ≡ true =
      λ sign. kept_atoms (is_atom whole (λ row. true)) (signed_atoms sign binding literals) kept_atom (signed (normal.is_literal task count) is_known sign binding (literal_known count binding bound) literals all) in
      and_from (list_all (is_atom whole (λ row. true)) (map by.named (filter by.keeps (signed_atoms true binding literals)))) (list_all (is_atom whole (λ row. true)) (map by.named (filter by.keeps (signed_atoms false binding literals))))
      (atoms true) (atoms false)

  -- ---- effects

  effect_is : (count : ℕ) (binding : Binding) → IsBinding count binding → (row : EffectSchema) → normal.is_effect task count row ≡ true →
      (objects : List ℕ) → Among objects (choices row.variables) → by.keeps (effect_of binding row objects).atom ≡ true →
      (e : GroundEffect) → kept_effect by (effect_of binding row objects) ≡ effect_row e → is_effect whole e ≡ true
  effect_is count binding bound row passes objects among kept e gives =
      let all = count + length row.variables in
      let first = and_parts (list_all (normal.is_range task) row.variables && list_all (normal.is_literal task all) row.condition && list_all (normal.is_place task all) row.places) _ passes in
      let second = and_parts (list_all (normal.is_range task) row.variables && list_all (normal.is_literal task all) row.condition) (list_all (normal.is_place task all) row.places) first.0 in
      let third = and_parts (list_all (normal.is_range task) row.variables) (list_all (normal.is_literal task all) row.condition) second.0 in
      let wide = more count (length row.variables) binding objects bound (chosen row.variables objects among third.0) in
      let arity_basic : is_predicate whole (λ declared. (declared.arity == length row.places && not declared.derived) && not declared.fixed) row.predicate ≡ true =
      sym (row_of task (λ declared. (declared.arity == length row.places && not declared.derived) && not declared.fixed) (slice_get task.predicates row.predicate)) ∙ first.1 in
      let both = row_first (λ declared. declared.arity == length row.places && not declared.derived) (λ declared. not declared.fixed) (slice_get task.predicates row.predicate) arity_basic in
      let arity = row_first (λ declared. declared.arity == length row.places) (λ declared. not declared.derived) (slice_get task.predicates row.predicate) both in
      let basic = row_second (λ declared. declared.arity == length row.places) (λ declared. not declared.derived) (slice_get task.predicates row.predicate) both in
      let known = placed_known all (binding ++ objects) wide row.predicate row.places second.1 arity in
      and_from (is_condition whole e.condition) (is_basic_atom whole e.atom)
      (subst (λ (r : EffectRow GroundAtom). is_condition whole r.condition ≡ true) gives (condition_is all (binding ++ objects) wide row.condition third.1))
      (subst (λ (r : EffectRow GroundAtom). is_basic_atom whole r.atom ≡ true) gives (kept_is (λ row. not row.derived) (effect_of binding row objects).atom known kept basic))

  effects_are : (count : ℕ) (binding : Binding) → IsBinding count binding → (rows : List EffectSchema) → list_all (normal.is_effect task count) rows ≡ true →
      (effects : List GroundEffect) → kept_effects by (flat_map (effects_of binding) rows) ≡ map effect_row effects → list_all (is_effect whole) effects ≡ true
  effects_are count binding bound rows all effects gives = each_passes (is_effect whole) effects (λ e among.
      let inside = subst (λ (l : List (EffectRow GroundAtom)). Among (effect_row e) l) (sym gives) (among_map effect_row e effects among) in
      let from = map_source (kept_effect by) (filter (λ (row : EffectRow GroundAtom). by.keeps row.atom && is_open by row.condition) (flat_map (effects_of binding) rows)) (effect_row e) inside in
      let found = filter_among (λ (row : EffectRow GroundAtom). by.keeps row.atom && is_open by row.condition) from.source (flat_map (effects_of binding) rows) from.among in
      let piece = flat_map_piece (effects_of binding) rows from.source found.0 in
      let row = piece.source in
      let made = map_source (effect_of binding row) (filter (λ objects. all_fit (binding ++ objects) row.condition) (choices row.variables)) from.source piece.inside in
      let chosen' = filter_among (λ objects. all_fit (binding ++ objects) row.condition) made.source (choices row.variables) made.among in
      let kept = (and_parts (by.keeps from.source.atom) (is_open by from.source.condition) found.1).0 in
      effect_is count binding bound row (all_passes (normal.is_effect task count) row rows piece.among all) made.source chosen'.0
      (ap (λ (r : EffectRow GroundAtom). by.keeps r.atom) made.gives ∙ kept) e (ap (kept_effect by) made.gives ∙ from.gives))

  -- ---- costs

  small : (rows : List ValueRow) (function : ℕ) (objects : List ℕ) → list_all (normal.is_value task) rows ≡ true → nat_le (unwrap_or (value_in rows function objects) 0) most ≡ true
  small [] function objects all = refl
  small (row ∷ rows) function objects all = cases (nat_eq row.function function && pointwise nat_eq row.objects objects) (small rows function objects parts.1)
    where
      parts : (normal.is_value task row ≡ true) × (list_all (normal.is_value task) rows ≡ true)
      parts = and_parts (normal.is_value task row) (list_all (normal.is_value task) rows) all

      cases : (b : Bool) → nat_le (unwrap_or (value_in rows function objects) 0) most ≡ true → nat_le (unwrap_or (if b then Some row.value else value_in rows function objects) 0) most ≡ true
      cases true rest = (and_parts (list_all (normal.is_object task) row.objects) (nat_le row.value most) parts.0).1
      cases false rest = rest

  cost_is : (count : ℕ) (binding : Binding) (cost : CostRow) → normal.is_cost task count cost ≡ true → is_cost whole (unwrap_or (value_of task binding cost) 0) ≡ true
  cost_is count binding (costs.Number number) passes = passes
  cost_is count binding (costs.Term function places) passes =
      let value = unwrap_or (value_of task binding (costs.Term function places)) 0 in
      and_from (nat_le value most) (task.metric || value == 1) (small task.values function (objects_at binding places) lawful.values)
      (or_left task.metric (value == 1) (and_parts task.metric (list_all (normal.is_place task count) places) passes).0)

  -- ---- names

  object_word : (object : ℕ) → is_object whole object ≡ true → is_word (object_name task object) ≡ true
  object_word object within = all_passes is_word (object_name task object) task.objects (among_at task.objects object [] (ltb-true object (length task.objects) within)) lawful.objects

  words : (objects : List ℕ) → list_all (is_object whole) objects ≡ true → list_all is_word (map (object_name task) objects) ≡ true
  words objects all = all-images (is_object whole) is_word (object_name task) object_word objects all

  -- ---- actions

  action_is : (schema : Schema) → normal.is_schema task schema ≡ true → (objects : List ℕ) → Among objects (choices schema.parameters) →
      (action : GroundAction) → kept_action by (action_of task schema objects) ≡ action_row action → is_action whole action ≡ true
  action_is schema passes objects among action gives =
      let count = length schema.parameters in
      let first = and_parts _ (normal.is_cost task count schema.cost) passes in
      let second = and_parts _ (list_all (normal.is_effect task count) schema.effects) first.0 in
      let third = and_parts _ (list_all (normal.is_literal task count) schema.condition) second.0 in
      let fourth = and_parts _ (list_all (normal.is_range task) schema.parameters) third.0 in
      let fifth = and_parts (is_word schema.action) (nat_le schema.shown count) fourth.0 in
      let bound = chosen schema.parameters objects among fourth.1 in
      let name = is_shown schema.action (map (object_name task) (take schema.shown objects)) fifth.0 (words (take schema.shown objects) (all_take (is_object whole) schema.shown objects bound.objects)) in
      and_from (is_name action.name && is_condition whole action.condition && list_all (is_effect whole) action.effects) (is_cost whole action.cost)
      (and_from (is_name action.name && is_condition whole action.condition) (list_all (is_effect whole) action.effects)
      (and_from (is_name action.name) (is_condition whole action.condition)
      (subst (λ (r : ActionRow GroundAtom). is_name r.name ≡ true) gives name)
      (subst (λ (r : ActionRow GroundAtom). is_condition whole r.condition ≡ true) gives (condition_is count objects bound schema.condition third.1)))
      (effects_are count objects bound schema.effects second.1 action.effects (ap (λ (r : ActionRow GroundAtom). r.effects) gives)))
      (subst (λ (r : ActionRow GroundAtom). is_cost whole r.cost ≡ true) gives (cost_is count objects schema.cost first.1))

  actions_are : list_all (is_action whole) result.actions ≡ true
  actions_are = each_passes (is_action whole) result.actions (λ action among.
      let given = among_contains (kept_actions by (instance_task task).actions) (action_row action)
      (Contains-permutation (map action_row result.actions) (kept_actions by (instance_task task).actions) (action_row action)
      (IsPermutation-sym (kept_actions by (instance_task task).actions) (map action_row result.actions) is.actions)
      (contains_among (map action_row result.actions) (action_row action) (among_map action_row action result.actions among))) in
      let from = map_source (kept_action by) (filter (λ (row : ActionRow GroundAtom). is_open by row.condition) (instance_task task).actions) (action_row action) given in
      let found = filter_among (λ (row : ActionRow GroundAtom). is_open by row.condition) from.source (instance_task task).actions from.among in
      let piece = flat_map_piece (actions_of task) task.schemas from.source found.0 in
      let schema = piece.source in
      let made = map_source (action_of task schema) (filter (is_instance task schema) (choices schema.parameters)) from.source piece.inside in
      let chosen' = filter_among (is_instance task schema) made.source (choices schema.parameters) made.among in
      action_is schema (all_passes (normal.is_schema task) schema task.schemas piece.among lawful.schemas) made.source chosen'.0 action (ap (kept_action by) made.gives ∙ from.gives))

  -- ---- axioms

  -- what an axiom of the ground task comes from
  record Origin (rule : GroundAxiom) : Type 0 where
    row : AxiomSchema
    among : Among row task.axioms
    objects : List ℕ
    chosen' : Among objects (choices row.parameters)
    keeps : by.keeps (axiom_of row objects).atom ≡ true
    gives : kept_axiom by (axiom_of row objects) ≡ axiom_row rule

  origin : (rule : GroundAxiom) → Among rule result.axioms → Origin rule
  origin rule among =
      let given = among_contains (kept_axioms by (instance_task task).axioms) (axiom_row rule)
      (Contains-permutation (map axiom_row result.axioms) (kept_axioms by (instance_task task).axioms) (axiom_row rule)
      (IsPermutation-sym (kept_axioms by (instance_task task).axioms) (map axiom_row result.axioms) is.axioms)
      (contains_among (map axiom_row result.axioms) (axiom_row rule) (among_map axiom_row rule result.axioms among))) in
      let from = map_source (kept_axiom by) (filter (λ (row : AxiomRow GroundAtom). by.keeps row.atom && is_open by row.condition) (instance_task task).axioms) (axiom_row rule) given in
      let found = filter_among (λ (row : AxiomRow GroundAtom). by.keeps row.atom && is_open by row.condition) from.source (instance_task task).axioms from.among in
      let piece = flat_map_piece axioms_of task.axioms from.source found.0 in
      let made = map_source (axiom_of piece.source) (filter (λ objects. all_fit objects piece.source.condition) (choices piece.source.parameters)) from.source piece.inside in
      record {
        row = piece.source;
        among = piece.among;
        objects = made.source;
        chosen' = (filter_among (λ objects. all_fit objects piece.source.condition) made.source (choices piece.source.parameters) made.among).0;
        keeps = ap (λ (r : AxiomRow GroundAtom). by.keeps r.atom) made.gives ∙ (and_parts (by.keeps from.source.atom) (is_open by from.source.condition) found.1).0;
        gives = ap (kept_axiom by) made.gives ∙ from.gives;
      }

  axiom_is : (rule : GroundAxiom) → Origin rule → is_axiom whole rule ≡ true
  axiom_is rule from =
      let row = from.row in
      let count = length row.parameters in
      let first = and_parts _ (normal.is_predicate task (λ declared. declared.arity == row.shown && declared.derived) row.predicate) (all_passes (normal.is_axiom task) row task.axioms from.among lawful.axioms) in
      let second = and_parts _ (list_all (normal.is_literal task count) row.condition) first.0 in
      let third = and_parts (nat_le row.shown count) (list_all (normal.is_range task) row.parameters) second.0 in
      let bound = chosen row.parameters from.objects from.chosen' third.1 in
      let both : is_predicate whole (λ declared. declared.arity == row.shown && declared.derived) row.predicate ≡ true =
      sym (row_of task (λ declared. declared.arity == row.shown && declared.derived) (slice_get task.predicates row.predicate)) ∙ first.1 in
      let arity = row_first (λ declared. declared.arity == row.shown) (λ declared. declared.derived) (slice_get task.predicates row.predicate) both in
      let derived = row_second (λ declared. declared.arity == row.shown) (λ declared. declared.derived) (slice_get task.predicates row.predicate) both in
      let few = leb-true row.shown count third.0 in
      let size : length (take row.shown from.objects) ≡ row.shown = length-take-le row.shown from.objects (let all = bound.size in omega (arith, few, all)) in
      let known : is_known (axiom_of row from.objects).atom ≡ true =
      and_from (list_all (is_object whole) (take row.shown from.objects)) (is_predicate whole (λ declared. declared.arity == length (take row.shown from.objects)) row.predicate)
      (all_take (is_object whole) row.shown from.objects bound.objects) (ap (λ n. is_predicate whole (λ declared. declared.arity == n) row.predicate) size ∙ arity) in
      and_from (is_derived_atom whole rule.atom) (is_condition whole rule.condition)
      (subst (λ (r : AxiomRow GroundAtom). is_derived_atom whole r.atom ≡ true) from.gives (kept_is (λ row. row.derived) (axiom_of row from.objects).atom known from.keeps derived))
      (subst (λ (r : AxiomRow GroundAtom). is_condition whole r.condition ≡ true) from.gives (condition_is count from.objects bound row.condition second.1))

  -- ---- ranks

  rule_below : (rule : GroundAxiom) → Origin rule → asks_below whole lawful.rank rule ≡ true
  rule_below rule from =
      let row = from.row in
      let all = all_passes (λ (row : AxiomSchema). list_all (normal.is_below task lawful.rank row.predicate) row.condition) row task.axioms from.among lawful.falls in
      let test : GroundAtom → Bool = is_below whole lawful.rank row.predicate in
      let atoms : (sign : Bool) → list_all test (map by.named (filter by.keeps (signed_atoms sign from.objects row.condition))) ≡ true =
      λ sign. each_passes test (map by.named (filter by.keeps (signed_atoms sign from.objects row.condition))) (λ atom among.
      let source = map_source by.named (filter by.keeps (signed_atoms sign from.objects row.condition)) atom among in
      ap test (sym source.gives)
      ∙ all_passes test source.source (signed_atoms sign from.objects row.condition) (filter_among by.keeps source.source (signed_atoms sign from.objects row.condition) source.among).0
      (signed (normal.is_below task lawful.rank row.predicate) test sign from.objects (λ positive predicate places below. below) row.condition all)) in
      subst (λ (r : AxiomRow GroundAtom). (list_all (is_below whole lawful.rank r.atom.predicate) r.condition.positive && list_all (is_below whole lawful.rank r.atom.predicate) r.condition.negative) ≡ true) from.gives
      (and_from (list_all test (map by.named (filter by.keeps (signed_atoms true from.objects row.condition)))) (list_all test (map by.named (filter by.keeps (signed_atoms false from.objects row.condition)))) (atoms true) (atoms false))

  -- ---- the initial state and the goal

  init_is : (atom : GroundAtom) → Among atom (filter by.keeps task.init) → is_basic_atom whole atom ≡ true
  init_is atom among =
      let found = filter_among by.keeps atom task.init among in
      let parts = and_parts (list_all (normal.is_object task) atom.objects) _ (all_passes (normal.is_init task) atom task.init found.0 lawful.init) in
      let both : is_predicate whole (λ declared. declared.arity == length atom.objects && not declared.derived) atom.predicate ≡ true =
      sym (row_of task (λ declared. declared.arity == length atom.objects && not declared.derived) (slice_get task.predicates atom.predicate)) ∙ parts.1 in
      kept_is (λ row. not row.derived) atom
      (and_from (list_all (is_object whole) atom.objects) (is_predicate whole (λ row. row.arity == length atom.objects) atom.predicate) parts.0
      (row_first (λ declared. declared.arity == length atom.objects) (λ declared. not declared.derived) (slice_get task.predicates atom.predicate) both))
      found.1
      (row_second (λ declared. declared.arity == length atom.objects) (λ declared. not declared.derived) (slice_get task.predicates atom.predicate) both)

  goal_is : is_goal whole (kept_goal by (instance_task task).goal) ≡ true
  goal_is = fits (all_fit [] task.goal)
    where
      opens : (b : Bool) → is_goal whole (if b then All (kept_condition by (condition_of [] task.goal)) else Never) ≡ true
      opens true = condition_is 0 [] (record { objects = refl; size = refl }) task.goal lawful.goal
      opens false = refl

      fits : (b : Bool) → is_goal whole (kept_goal by (if b then All (condition_of [] task.goal) else Never)) ≡ true
      fits true = opens (is_open by (condition_of [] task.goal))
      fits false = refl

  -- ---- the task

  pub lawful_ground : IsLawful result
  lawful_ground = subst IsLawful same (record {
    objects = lawful.objects;
    predicates = lawful.predicates;
    init = each_passes (is_basic_atom whole) (filter by.keeps task.init) init_is;
    init_once = differ_filter is_same_atom by.keeps task.init lawful.init_once;
    actions = actions_are;
    axioms = each_passes (is_axiom whole) result.axioms (λ rule among. axiom_is rule (origin rule among));
    goal = goal_is;
    rank = lawful.rank;
    falls = each_passes (asks_below whole lawful.rank) result.axioms (λ rule among. rule_below rule (origin rule among));
  })
