-- The reached task of a lawful ground task is lawful: what the ground task's law says, part by part.
use Rattle.std.proofs.Common.{◌≡◌, ℕ, Bool, true, false, not, ◌&&◌, ◌||◌, nat_le, nat_eq, List, [], map, length, Option, Some, None, refl, sym, ap, ◌∙◌, subst}
use Rattle.std.specs.List.{list_all, slice_get}
use Rattle.std.specs.Option.{option_map, option_map_or, unwrap_or}
use Rattle.std.proofs.lemmas.Bool.{and_parts, true≢false, not-true, leb-true, eqb-true}
use Rattle.std.proofs.lemmas.Option.{slice_get_within, get_or_from_slice_get}
use Rattle.lists.proofs.Items.{Among, among_contains, among_at, map_source, all_passes, any_passes}
use Rattle.normal_task.specs.declared.task.GroundAtom.{GroundAtom}
use Rattle.normal_task.specs.declared.task.PredicateRow.{PredicateRow}
use Rattle.normal_task.specs.Lawful.{most, is_word}
use Rattle.normal_task.specs.Meaning.{is_same_atom}
use Rattle.normal_task.proofs.OnceEach.{atom_same}
use Rattle.ground_task.specs.declared.types.Ground.{Ground}
use Rattle.ground_task.specs.declared.types.GroundAction.{GroundAction}
use Rattle.ground_task.specs.declared.types.GroundAxiom.{GroundAxiom}
use Rattle.ground_task.specs.declared.types.GroundEffect.{GroundEffect}
use Rattle.ground_task.specs.GroundTask.{is_derived, effect_row, action_row, axiom_row, ground_task}
use Rattle.ground_task.specs.Lawful.{is_object, is_predicate, is_atom, is_basic_atom, is_derived_atom, is_condition, is_effect, is_cost, is_action, is_axiom, IsLawful as IsLawfulGround}
use Rattle.ground_task.specs.Literals.{EffectRow, ActionRow, AxiomRow}
use Rattle.ground_task.proofs.AtomKinds.{HasKinds}
use Rattle.ground_task.proofs.LawfulRanks.{lawful_ranks}
use Rattle.reached_task.specs.declared.types.Reached.{Reached}
use Rattle.reached_task.specs.Reachable.{predicate_name, IsClosed, IsReachedTask}
use Rattle.reached_task.specs.Lawful.{IsLawful}
use Rattle.reached_task.proofs.LawfulTask.{IsPaid, lawful_if}
use Rattle.reached_task.proofs.ShownNames.{shown_is_name}
use Rattle.lists.specs.Names.{is_name}

-- the row of a predicate that passes a test
record Row (predicates : List PredicateRow) (test : PredicateRow → Bool) (predicate : ℕ) : Type 0 where
  row : PredicateRow
  at : slice_get predicates predicate ≡ Some row
  passes : test row ≡ true

row_of : (predicates : List PredicateRow) (test : PredicateRow → Bool) (predicate : ℕ) → unwrap_or (option_map test (slice_get predicates predicate)) false ≡ true → Row predicates test predicate
row_of predicates test predicate passes = by (slice_get predicates predicate) refl passes
  where
    by : (o : Option PredicateRow) → slice_get predicates predicate ≡ o → unwrap_or (option_map test o) false ≡ true → Row predicates test predicate
    by None at passes = absurd (true≢false (sym passes))
    by (Some row) at passes = record { row = row; at = at; passes = passes }

module _ (task : Ground) (lawful : IsLawfulGround task) where
  abbrev row_test : (PredicateRow → Bool) → GroundAtom → PredicateRow → Bool
  row_test test atom row = (nat_eq row.arity (length atom.objects) && not row.fixed) && test row

  -- the row of an atom's predicate
  atom_row : (test : PredicateRow → Bool) (atom : GroundAtom) → is_atom task test atom ≡ true → Row task.normal_predicates test atom.predicate
  atom_row test atom is =
      let found = row_of task.normal_predicates (row_test test atom) atom.predicate (and_parts (list_all (is_object task) atom.objects) (is_predicate task (row_test test atom) atom.predicate) is).1 in
      record { row = found.row; at = found.at; passes = (and_parts (nat_eq found.row.arity (length atom.objects) && not found.row.fixed) (test found.row) found.passes).1 }

  kind : (atom : GroundAtom) (row : PredicateRow) → slice_get task.normal_predicates atom.predicate ≡ Some row → is_derived task.normal_predicates atom ≡ row.derived
  kind atom row at = ap (λ (o : Option PredicateRow). unwrap_or (option_map (λ (row : PredicateRow). row.derived) o) false) at

  basic : (atom : GroundAtom) → is_basic_atom task atom ≡ true → is_derived task.normal_predicates atom ≡ false
  basic atom is = let found = atom_row (λ row. not row.derived) atom is in kind atom found.row found.at ∙ not-true found.row.derived found.passes

  derived : (atom : GroundAtom) → is_derived_atom task atom ≡ true → is_derived task.normal_predicates atom ≡ true
  derived atom is = let found = atom_row (λ row. row.derived) atom is in kind atom found.row found.at ∙ found.passes

  -- ---- actions and axioms

  record Lawful (action : GroundAction) : Type 0 where
    named : is_name action.name ≡ true
    effects : list_all (is_effect task) action.effects ≡ true
    cost : is_cost task action.cost ≡ true

  action_is : (action : GroundAction) → Among action task.actions → Lawful action
  action_is action among =
      let all = and_parts (is_name action.name && is_condition task action.condition && list_all (is_effect task) action.effects) (is_cost task action.cost) (all_passes (is_action task) action task.actions among lawful.actions) in
      let most' = and_parts (is_name action.name && is_condition task action.condition) (list_all (is_effect task) action.effects) all.0 in
      record { named = (and_parts (is_name action.name) (is_condition task action.condition) most'.0).0; effects = most'.1; cost = all.1 }

  effect_basic : (action : GroundAction) → Among action task.actions → (effect : GroundEffect) → Among effect action.effects → is_basic_atom task effect.atom ≡ true
  effect_basic action among effect among_e =
      (and_parts (is_condition task effect.condition) (is_basic_atom task effect.atom) (all_passes (is_effect task) effect action.effects among_e (action_is action among).effects)).1

  axiom_derived : (row : GroundAxiom) → Among row task.axioms → is_derived_atom task row.atom ≡ true
  axiom_derived row among = (and_parts (is_derived_atom task row.atom) (is_condition task row.condition) (all_passes (is_axiom task) row task.axioms among lawful.axioms)).0

  paid : (row : ActionRow GroundAtom) → Among row (ground_task task).actions → IsPaid task.metric row.name row.cost
  paid row among =
      let from = map_source action_row task.actions row among in
      subst (λ (r : ActionRow GroundAtom). IsPaid task.metric r.name r.cost) from.gives (of_action from.source from.among)
    where
      of_action : (action : GroundAction) → Among action task.actions → IsPaid task.metric action.name action.cost
      of_action action among =
          let is = action_is action among in
          let cost = and_parts (nat_le action.cost most) (task.metric || nat_eq action.cost 1) is.cost in
          record { named = is.named; small_cost = leb-true action.cost most cost.0; unit_cost = λ free. eqb-true action.cost 1 (sym (ap (λ b. b || nat_eq action.cost 1) free) ∙ cost.1) }

  kinds : HasKinds (ground_task task)
  kinds = record {
    initially = λ atom among. basic atom (all_passes (is_basic_atom task) atom task.init among lawful.init);
    effects = λ row among effect among_e.
        let from = map_source action_row task.actions row among in
        let inside = subst (λ (r : ActionRow GroundAtom). Among effect r.effects) (sym from.gives) among_e in
        let from_e = map_source effect_row from.source.effects effect inside in
        subst (λ (e : EffectRow GroundAtom). is_derived task.normal_predicates e.atom ≡ false) from_e.gives (basic from_e.source.atom (effect_basic from.source from.among from_e.source from_e.among));
    rules = λ row among.
        let from = map_source axiom_row task.axioms row among in
        subst (λ (r : AxiomRow GroundAtom). is_derived task.normal_predicates r.atom ≡ true) from.gives (derived from.source.atom (axiom_derived from.source from.among));
  }

  -- ---- names of facts

  -- the atom's predicate has a name that is a word
  known : (test : PredicateRow → Bool) (atom : GroundAtom) → is_atom task test atom ≡ true → is_word (predicate_name task atom.predicate) ≡ true
  known test atom is =
      let found = atom_row test atom is in
      let within = slice_get_within task.normal_predicates atom.predicate found.row found.at in
      let at = get_or_from_slice_get task.normal_predicates atom.predicate found.row found.row found.at in
      let among = subst (λ (r : PredicateRow). Among r task.normal_predicates) at (among_at task.normal_predicates atom.predicate found.row within) in
      ap (λ (o : Option PredicateRow). is_word (option_map_or (λ (row : PredicateRow). row.name) o [])) found.at
      ∙ (and_parts (is_word found.row.name) (not (found.row.derived && found.row.fixed)) (all_passes (λ row. is_word row.name && not (row.derived && row.fixed)) found.row task.normal_predicates among lawful.predicates)).0

  closed : IsClosed (ground_task task) (λ atom. is_word (predicate_name task atom.predicate))
  closed = record {
    init = λ atom in'. known (λ row. not row.derived) atom (all_passes (is_basic_atom task) atom task.init (among_contains task.init atom in') lawful.init);
    axioms = λ row in' ready.
        let from = map_source axiom_row task.axioms row (among_contains (map axiom_row task.axioms) row in') in
        subst (λ (r : AxiomRow GroundAtom). is_word (predicate_name task r.atom.predicate) ≡ true) from.gives (known (λ row. row.derived) from.source.atom (axiom_derived from.source from.among));
    effects = λ row effect in' in_e adds ready ready_e.
        let from = map_source action_row task.actions row (among_contains (map action_row task.actions) row in') in
        let inside = subst (λ (r : ActionRow GroundAtom). Among effect r.effects) (sym from.gives) (among_contains row.effects effect in_e) in
        let from_e = map_source effect_row from.source.effects effect inside in
        subst (λ (e : EffectRow GroundAtom). is_word (predicate_name task e.atom.predicate) ≡ true) from_e.gives (known (λ row. not row.derived) from_e.source.atom (effect_basic from.source from.among from_e.source from_e.among));
  }

  pub lawful_reached : (reached : Reached) → IsReachedTask task reached → IsLawful reached
  lawful_reached reached is =
      lawful_if task reached is (lawful_ranks task lawful) kinds paid lawful.init_once (λ atom among.
      shown_is_name task atom lawful.objects (is.reachable.least.least (λ atom. is_word (predicate_name task atom.predicate)) closed atom (any_passes (is_same_atom atom) atom is.atoms among (atom_same atom))))
