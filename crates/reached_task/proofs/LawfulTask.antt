-- The reached task of a lawful ground task is lawful.
use Rattle.std.proofs.Common.{◌≡◌, ℕ, ◌<◌, ◌≤◌, Bool, true, false, not, ◌&&◌, inl, inr, List, [], ◌∷◌, map, length, nat_eq, refl, sym, ap, ◌∙◌, subst, arith}
use Rattle.std.specs.Prelude.{filter, if◌then◌else◌}
use Rattle.std.specs.List.{All as Each, list_any}
use Rattle.std.specs.List.Sorted.{IsStrictlySortedBy}
use Rattle.std.proofs.lemmas.Bool.{cases_Bool, and_parts, and_from, true≢false}
use Rattle.std.proofs.lemmas.List.{length-map}
use Rattle.std.proofs.lemmas.Option.{slice_get_within}
use Rattle.lists.proofs.Items.{Among, among_map, map_source, filter_among, filter_yes, filter_no, any_passes, none_passes}
use Rattle.normal_task.specs.declared.task.GroundAtom.{GroundAtom}
use Rattle.normal_task.specs.Lawful.{most, differ}
use Rattle.normal_task.specs.Meaning.{is_same_atom}
use Rattle.ground_task.specs.declared.types.Cond.{Cond}
use Rattle.ground_task.specs.declared.types.GoalRow.{GoalRow}
use Rattle.ground_task.specs.declared.types.GoalRow.TheVariants.{Never, All}
use Rattle.ground_task.specs.declared.types.Ground.{Ground}
use Rattle.ground_task.specs.GroundTask.{ground_task}
use Rattle.ground_task.specs.Literals.{EffectRow, ActionRow, AxiomRow}
use Rattle.ground_task.specs.Ranked.{IsRanked}
use Rattle.ground_task.specs.Settled.{is_open, kept_condition, kept_effect, kept_action, kept_axiom, kept_goal}
use Rattle.ground_task.proofs.AtomKinds.{HasKinds, kinds_kept}
use Rattle.ground_task.proofs.Settling.{Names}
use Rattle.ground_task.proofs.Statics.{all_if}
use Rattle.reached_task.specs.declared.types.Fact.{Fact}
use Rattle.reached_task.specs.declared.types.Reached.{Reached}
use Rattle.reached_task.specs.declared.types.ReachedAction.{ReachedAction}
use Rattle.reached_task.specs.declared.types.ReachedAxiom.{ReachedAxiom}
use Rattle.reached_task.specs.ReachedTask.{is_derived, effect_row, action_row, axiom_row, reached_task}
use Rattle.reached_task.specs.Reachable.{is_among, number_of, numbering, fact_of, fact_cmp, shown_atom, IsReachedTask}
use Rattle.reached_task.specs.Lawful.{NamesFacts, IsLawfulEffect, IsLawfulAction, IsLawfulAxiom, IsLawfulGoal, IsLawful}
use Rattle.reached_task.proofs.ReachedMeaning as law
use Rattle.lists.specs.Names.{is_name}

-- an action's name and cost
pub record IsPaid (metric : Bool) (name : List ℕ) (cost : ℕ) : Type 0 where
  pub named : is_name name ≡ true
  pub small_cost : cost ≤ most
  pub unit_cost : metric ≡ false → cost ≡ 1

module _ (task : Ground) (reached : Reached) (is_reached : IsReachedTask task reached) (ranked : IsRanked (ground_task task)) (kinds : HasKinds (ground_task task)) where
  abbrev atoms : List GroundAtom
  atoms = is_reached.atoms

  names : Names (numbering atoms) (ground_task task) (reached_task reached)
  names = law.names task reached ranked is_reached

  reached_kinds : HasKinds (reached_task reached)
  reached_kinds = kinds_kept (numbering atoms) (ground_task task) (reached_task reached) (law.settled task reached ranked is_reached) names kinds

  below : (a : GroundAtom) → is_among atoms a ≡ true → number_of atoms a < length reached.facts
  below a kept =
      let within = slice_get_within atoms (number_of atoms a) a (law.at_number task reached ranked is_reached a kept) in
      let size = ap (λ (l : List Fact). length l) is_reached.is.facts ∙ length-map atoms (fact_of task) in
      omega (arith, within, size)

  all_below : (list : List GroundAtom) → Each (λ (f : ℕ). f < length reached.facts) (map (number_of atoms) (filter (is_among atoms) list))
  all_below list = all_if (λ (f : ℕ). f < length reached.facts) (map (number_of atoms) (filter (is_among atoms) list)) (λ f among.
      let from = map_source (number_of atoms) (filter (is_among atoms) list) f among in
      subst (λ (f : ℕ). f < length reached.facts) from.gives (below from.source (filter_among (is_among atoms) from.source list from.among).1))

  kept_facts : (c : Cond GroundAtom) → NamesFacts reached (kept_condition (numbering atoms) c)
  kept_facts c = record { positive = all_below c.positive; negative = all_below c.negative }

  -- ---- initial facts

  once_kept : (list : List GroundAtom) → differ is_same_atom list ≡ true → differ nat_eq (map (number_of atoms) (filter (is_among atoms) list)) ≡ true
  once_kept [] once = refl
  once_kept (x ∷ xs) once = elim (cases_Bool (is_among atoms x)) [
    | inr out ↦ subst (λ (l : List GroundAtom). differ nat_eq (map (number_of atoms) l) ≡ true) (sym (filter_no (is_among atoms) x xs out)) (once_kept xs parts.1)
    | inl in' ↦
        subst (λ (l : List GroundAtom). differ nat_eq (map (number_of atoms) l) ≡ true) (sym (filter_yes (is_among atoms) x xs in'))
        (and_from (not (list_any (nat_eq (number_of atoms x)) (map (number_of atoms) (filter (is_among atoms) xs)))) (differ nat_eq (map (number_of atoms) (filter (is_among atoms) xs)))
        (ap not (none_passes (nat_eq (number_of atoms x)) (map (number_of atoms) (filter (is_among atoms) xs)) (again in'))) (once_kept xs parts.1))
  ]
    where
      parts : (not (list_any (is_same_atom x) xs) ≡ true) × (differ is_same_atom xs ≡ true)
      parts = and_parts (not (list_any (is_same_atom x) xs)) (differ is_same_atom xs) once

      again : is_among atoms x ≡ true → (n : ℕ) → Among n (map (number_of atoms) (filter (is_among atoms) xs)) → nat_eq (number_of atoms x) n ≡ true → ⊥
      again in' n among same =
          let from = map_source (number_of atoms) (filter (is_among atoms) xs) n among in
          let found = filter_among (is_among atoms) from.source xs from.among in
          let same' = subst (λ (m : ℕ). nat_eq (number_of atoms x) m ≡ true) (sym from.gives) same in
          true≢false (sym parts.0 ∙ ap not (any_passes (is_same_atom x) from.source xs found.0 (sym (names.same_named x from.source in' found.1) ∙ same')))

  -- ---- actions and axioms

  module _ (paid : (row : ActionRow GroundAtom) → Among row (ground_task task).actions → IsPaid task.metric row.name row.cost) where
    action_lawful : (action : ReachedAction) → Among action reached.actions → IsLawfulAction reached action
    action_lawful action among =
        let row_among = among_map action_row action reached.actions among in
        let from = map_source (kept_action (numbering atoms)) (filter (λ (row : ActionRow GroundAtom). is_open (numbering atoms) row.condition) (ground_task task).actions) (action_row action)
        (subst (λ (l : List (ActionRow ℕ)). Among (action_row action) l) is_reached.is.actions row_among) in
        let found = filter_among (λ (row : ActionRow GroundAtom). is_open (numbering atoms) row.condition) from.source (ground_task task).actions from.among in
        let pays = paid from.source found.0 in
        record {
          literals = subst (NamesFacts reached) (ap (λ (r : ActionRow ℕ). r.condition) from.gives) (kept_facts from.source.condition);
          each_effect = all_if (IsLawfulEffect reached) action.effects (λ e among_e.
              let effect_among = among_map effect_row e action.effects among_e in
              let inside = subst (λ (r : ActionRow ℕ). Among (effect_row e) r.effects) (sym from.gives) effect_among in
              let from_e = map_source (kept_effect (numbering atoms)) (filter (λ (row : EffectRow GroundAtom). is_among atoms row.atom && is_open (numbering atoms) row.condition) from.source.effects) (effect_row e) inside in
              let found = filter_among (λ (row : EffectRow GroundAtom). is_among atoms row.atom && is_open (numbering atoms) row.condition) from_e.source from.source.effects from_e.among in
              let kept = (and_parts (is_among atoms from_e.source.atom) (is_open (numbering atoms) from_e.source.condition) found.1).0 in
              record {
                fact = subst (λ (r : EffectRow ℕ). r.atom < length reached.facts) from_e.gives (below from_e.source.atom kept);
                basic = reached_kinds.effects (action_row action) row_among (effect_row e) effect_among;
                literals = subst (NamesFacts reached) (ap (λ (r : EffectRow ℕ). r.condition) from_e.gives) (kept_facts from_e.source.condition);
              });
          small_cost = subst (λ (r : ActionRow ℕ). r.cost ≤ most) from.gives pays.small_cost;
          unit_cost = λ free. ap (λ (r : ActionRow ℕ). r.cost) (sym from.gives) ∙ pays.unit_cost (sym is_reached.is.metric ∙ free);
          name = subst (λ (r : ActionRow ℕ). is_name r.name ≡ true) from.gives pays.named;
        }

    axiom_lawful : (row : ReachedAxiom) → Among row reached.axioms → IsLawfulAxiom reached row
    axiom_lawful row among =
        let row_among = among_map axiom_row row reached.axioms among in
        let from = map_source (kept_axiom (numbering atoms)) _ (axiom_row row) (subst (λ (l : List (AxiomRow ℕ)). Among (axiom_row row) l) is_reached.is.axioms row_among) in
        record {
          derived = reached_kinds.rules (axiom_row row) row_among;
          literals = subst (NamesFacts reached) (ap (λ (r : AxiomRow ℕ). r.condition) from.gives) (kept_facts from.source.condition);
        }

    goal_lawful : (g : GoalRow GroundAtom) → IsLawfulGoal reached (kept_goal (numbering atoms) g)
    goal_lawful Never = tt
    goal_lawful (All c) = by (is_open (numbering atoms) c)
      where
        by : (b : Bool) → IsLawfulGoal reached (if b then All (kept_condition (numbering atoms) c) else Never)
        by true = kept_facts c
        by false = tt

    pub lawful_if : differ is_same_atom task.init ≡ true → ((a : GroundAtom) → Among a atoms → is_name (shown_atom task a) ≡ true) → IsLawful reached
    lawful_if once lines = record {
      in_order = subst (IsStrictlySortedBy fact_cmp) (sym (law.atoms_are task reached ranked is_reached)) is_reached.reachable.in_order;
      shown = all_if (λ (f : Fact). is_name f.shown ≡ true) reached.facts (λ f among.
          let from = map_source (fact_of task) atoms f (subst (λ (l : List Fact). Among f l) is_reached.is.facts among) in
          subst (λ (f : Fact). is_name f.shown ≡ true) from.gives (lines from.source from.among));
      init = all_if (λ (f : ℕ). (f < length reached.facts) × (is_derived reached.facts f ≡ false)) reached.init (λ f among.
          let from = map_source (number_of atoms) (filter (is_among atoms) task.init) f (subst (λ (l : List ℕ). Among f l) is_reached.is.init among) in
          let found = filter_among (is_among atoms) from.source task.init from.among in
          (subst (λ (f : ℕ). f < length reached.facts) from.gives (below from.source found.1), reached_kinds.initially f among));
      init_once = subst (λ (l : List ℕ). differ nat_eq l ≡ true) (sym is_reached.is.init) (once_kept task.init once);
      actions = all_if (IsLawfulAction reached) reached.actions action_lawful;
      axioms = all_if (IsLawfulAxiom reached) reached.axioms axiom_lawful;
      goal = subst (IsLawfulGoal reached) (sym is_reached.is.goal) (goal_lawful task.goal);
      ranked = law.no_recursion task reached ranked is_reached;
    }
