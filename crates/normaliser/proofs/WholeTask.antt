-- What comes of the actions, the axioms and the goal.
use Rattle.std.proofs.Common.{◌≡◌, ℕ, ◌+◌, Bool, List, [], ◌++◌, map, length, ap, ◌∙◌}
use Rattle.std.specs.List.{flat_map}
use Rattle.pddl_syntax.specs.declared.types.Action.{Action}
use Rattle.pddl_syntax.specs.declared.types.Derived.{Derived}
use Rattle.pddl_syntax.specs.declared.types.Domain.{Domain}
use Rattle.pddl_syntax.specs.declared.types.Init.{Init}
use Rattle.pddl_syntax.specs.declared.types.Problem.{Problem}
use Rattle.pddl_syntax.specs.Words.{Name}
use Rattle.normal_task.specs.declared.task.AxiomRow.{AxiomRow}
use Rattle.normal_task.specs.declared.task.GroundAtom.{GroundAtom}
use Rattle.normal_task.specs.declared.task.Literal.{Literal}
use Rattle.normal_task.specs.declared.task.Normal.{Normal}
use Rattle.normal_task.specs.declared.task.PredicateRow.{PredicateRow}
use Rattle.normal_task.specs.declared.task.Schema.{Schema}
use Rattle.normal_task.specs.declared.task.ValueRow.{ValueRow}
use Rattle.normal_task.specs.Meaning.{is_same_atom, is_same_value}
use Rattle.normal_task.specs.Numbers.{object_names}
use Rattle.normaliser.specs.declared.normal.MadeAll.{MadeAll}
use Rattle.normaliser.specs.WholeTask.{IsMadeAll, goal_from}
use Rattle.normal_task.specs.Normalised.{schemas, axiom_rows, made_schemas, made_axioms, after_schemas, after_axioms, made_goal, all_fresh, declared_row, fresh_predicates, fresh_rows, once_after, stated, value_row, normal}
use Rattle.normal_task.specs.declared.parts.Fresh.{Fresh}
use Rattle.normal_task.specs.Parts.{Made, in_turn}

module _ (domain : Domain) (problem : Problem) where
  pub made-all : (actions : List Action) → actions ≡ domain.actions → (schema_items : List Schema) (schema_fresh : List Fresh) →
      (schema_items ≡ (in_turn (map (schemas domain problem) actions) 0).items) × (schema_fresh ≡ (in_turn (map (schemas domain problem) actions) 0).fresh) →
      (after : ℕ) → after ≡ length schema_fresh → (rules : List Derived) → rules ≡ domain.axioms → (axiom_items : List AxiomRow) (axiom_fresh : List Fresh) →
      (axiom_items ≡ (in_turn (map (axiom_rows domain problem) rules) after).items) × (axiom_fresh ≡ (in_turn (map (axiom_rows domain problem) rules) after).fresh) →
      (behind : ℕ) → behind ≡ after + length axiom_fresh → (literals : List Literal) (goal_fresh : List Fresh) →
      (literals ≡ (goal_from domain problem behind).items) × (goal_fresh ≡ (goal_from domain problem behind).fresh) →
      (all : MadeAll) → (all.schemas ≡ schema_items) × ((all.axioms ≡ axiom_items) × ((all.goal ≡ literals) × (all.fresh ≡ schema_fresh ++ (axiom_fresh ++ goal_fresh)))) →
      IsMadeAll domain problem all
  made-all actions actions_are schema_items schema_fresh schema_made after after_is rules rules_are axiom_items axiom_fresh axiom_made behind behind_is literals goal_fresh goal_is all holds =
      let schemas_same : in_turn (map (schemas domain problem) actions) 0 ≡ made_schemas domain problem = ap (λ (l : List Action). in_turn (map (schemas domain problem) l) 0) actions_are in
      let schema_fresh_is = schema_made.1 ∙ ap (λ (m : Made Schema). m.fresh) schemas_same in
      let after_same : after ≡ after_schemas domain problem = after_is ∙ ap (λ (l : List Fresh). length l) schema_fresh_is in
      let axioms_same : in_turn (map (axiom_rows domain problem) rules) after ≡ made_axioms domain problem =
      ap (λ (l : List Derived). in_turn (map (axiom_rows domain problem) l) after) rules_are ∙ ap (in_turn (map (axiom_rows domain problem) domain.axioms)) after_same in
      let axiom_fresh_is = axiom_made.1 ∙ ap (λ (m : Made AxiomRow). m.fresh) axioms_same in
      let behind_same : behind ≡ after_axioms domain problem = behind_is ∙ ap (λ (n : ℕ). n + length axiom_fresh) after_same ∙ ap (λ (l : List Fresh). after_schemas domain problem + length l) axiom_fresh_is in
      let goal_same : goal_from domain problem behind ≡ made_goal domain problem = ap (goal_from domain problem) behind_same in
      record {
        schemas = holds.0 ∙ schema_made.0 ∙ ap (λ (m : Made Schema). m.items) schemas_same;
        axioms = holds.1.0 ∙ axiom_made.0 ∙ ap (λ (m : Made AxiomRow). m.items) axioms_same;
        goal = holds.1.1.0 ∙ goal_is.0 ∙ ap (λ (m : Made Literal). m.items) goal_same;
        fresh =
            holds.1.1.1 ∙ ap (λ (l : List Fresh). l ++ (axiom_fresh ++ goal_fresh)) schema_fresh_is
            ∙ ap (λ (l : List Fresh). (made_schemas domain problem).fresh ++ l)
            (ap (λ (l : List Fresh). l ++ goal_fresh) axiom_fresh_is ∙ ap (λ (l : List Fresh). (made_axioms domain problem).fresh ++ l) (goal_is.1 ∙ ap (λ (m : Made Literal). m.fresh) goal_same));
      }

  abbrev whole : List Name → List PredicateRow → List Schema → List AxiomRow → List GroundAtom → List ValueRow → List Literal → Bool → Normal
  whole names predicates schema_items axioms init values goal_literals metric =
      record { objects = names; predicates = predicates; schemas = schema_items; axioms = axioms; init = init; values = values; goal = goal_literals; metric = metric }

  -- the normal task, from its parts
  pub normal-is : (names : List Name) → names ≡ object_names domain problem →
      (predicates : List PredicateRow) (fresh : List Fresh) → fresh ≡ all_fresh domain problem → predicates ≡ map (declared_row domain problem) domain.predicates ++ fresh_predicates domain problem 0 fresh →
      (schema_items : List Schema) → schema_items ≡ (made_schemas domain problem).items →
      (axioms axiom_items : List AxiomRow) (fresh' : List Fresh) → fresh' ≡ all_fresh domain problem → axiom_items ≡ (made_axioms domain problem).items → axioms ≡ axiom_items ++ fresh_rows domain problem 0 fresh' →
      (entries : List Init) → entries ≡ problem.init → (init : List GroundAtom) → init ≡ once_after domain problem is_same_atom [] (flat_map (stated domain problem) entries) →
      (values : List ValueRow) → values ≡ once_after domain problem is_same_value [] (flat_map (value_row domain problem) entries) →
      (goal_literals : List Literal) → goal_literals ≡ (made_goal domain problem).items → (metric : Bool) → metric ≡ problem.metric →
      (record { objects = names; predicates = predicates; schemas = schema_items; axioms = axioms; init = init; values = values; goal = goal_literals; metric = metric }) ≡ normal domain problem
  normal-is names names_are predicates fresh fresh_is predicates_are schema_items schemas_are axioms axiom_items fresh' fresh_is' axiom_items_are axioms_are entries entries_are init init_is values values_are goal_literals goal_is metric metric_is =
      let predicates_same : predicates ≡ map (declared_row domain problem) domain.predicates ++ fresh_predicates domain problem 0 (all_fresh domain problem) =
      predicates_are ∙ ap (λ (l : List Fresh). map (declared_row domain problem) domain.predicates ++ fresh_predicates domain problem 0 l) fresh_is in
      let axioms_same : axioms ≡ (made_axioms domain problem).items ++ fresh_rows domain problem 0 (all_fresh domain problem) =
      axioms_are ∙ ap (λ (l : List AxiomRow). l ++ fresh_rows domain problem 0 fresh') axiom_items_are ∙ ap (λ (l : List Fresh). (made_axioms domain problem).items ++ fresh_rows domain problem 0 l) fresh_is' in
      let init_same : init ≡ once_after domain problem is_same_atom [] (flat_map (stated domain problem) problem.init) =
      init_is ∙ ap (λ (l : List Init). once_after domain problem is_same_atom [] (flat_map (stated domain problem) l)) entries_are in
      let values_same : values ≡ once_after domain problem is_same_value [] (flat_map (value_row domain problem) problem.init) =
      values_are ∙ ap (λ (l : List Init). once_after domain problem is_same_value [] (flat_map (value_row domain problem) l)) entries_are in
      joined names_are predicates_same schemas_are axioms_same init_same values_same goal_is metric_is
    where
      joined : {n n' : List Name} {p p' : List PredicateRow} {s s' : List Schema} {a a' : List AxiomRow} {i i' : List GroundAtom} {v v' : List ValueRow} {g g' : List Literal} {m m' : Bool} →
          n ≡ n' → p ≡ p' → s ≡ s' → a ≡ a' → i ≡ i' → v ≡ v' → g ≡ g' → m ≡ m' →
          whole n p s a i v g m ≡ whole n' p' s' a' i' v' g' m'
      joined e1 e2 e3 e4 e5 e6 e7 e8 = cc
