-- What a pair of files without check faults mentions is declared, and no variable is unbound in it.
use Rattle.std.proofs.Common.{◌≡◌, ℕ, ◌+◌, Bool, true, false, ◌&&◌, List, [], ◌∷◌, ◌++◌, map, length, inl, inr, refl, sym, ◌∙◌, subst, arith}
use Rattle.std.specs.List.{list_all, flat_map}
use Rattle.std.proofs.lemmas.Bool.{and_parts, and_from, false≢true}
use Rattle.std.proofs.lemmas.List.Folds.{list_all-map}
use Rattle.pddl_syntax.specs.declared.types.Action.{Action}
use Rattle.pddl_syntax.specs.declared.types.Derived.{Derived}
use Rattle.pddl_syntax.specs.declared.types.Domain.{Domain}
use Rattle.pddl_syntax.specs.declared.types.Init.{Init}
use Rattle.pddl_syntax.specs.declared.types.Init.TheVariants as inits
use Rattle.pddl_syntax.specs.declared.types.Named.{Named}
use Rattle.pddl_syntax.specs.declared.types.Problem.{Problem}
use Rattle.pddl_syntax.specs.declared.types.Term.{Term}
use Rattle.pddl_syntax.specs.declared.types.Term.TheVariants as terms
use Rattle.pddl_syntax.specs.Words.{Name}
use Rattle.pddl_syntax.specs.Objects.{objects}
use Rattle.pddl_syntax.specs.Holds as holds
use Rattle.pddl_syntax.proofs.ConditionCases.{Each}
use Rattle.fault_positions.specs.Mentions.{Mention, Use, Written, predicate_uses, function_uses, arguments, in_head, in_condition, in_effect, in_action, in_axiom, in_domain, in_init, in_problem}
use Rattle.fault_positions.specs.Names as names
use Rattle.fault_positions.specs.Scopes as scopes
use Rattle.type_checker.specs.Faults.{check_faults}
use Rattle.type_checker.specs.Faultless as checked
use Rattle.type_checker.proofs.Basic.{written_basic}
pub use Rattle.type_checker.proofs.Bound.{all_bound as unbound_rows, action_bound}
use Rattle.type_checker.proofs.Bound.{axiom_bound}
pub use Rattle.type_checker.proofs.Declared.{declared_among}
use Rattle.type_checker.proofs.Declared.{predicates_declared, objects_known, declared_with_arity, object_among}
use Rattle.type_checker.proofs.EachPart as each_part
use Rattle.type_checker.proofs.NoFaults.{left_empty, right_empty, all_pass}
use Rattle.lists.proofs.Items.{Among, all_passes, all_flat_map}
use Rattle.normal_task.specs.Parts.{is_listed, known}
use Rattle.normal_task.specs.Normalised.{parameter_scope, axiom_rows, schemas, precondition_parts, effect_rows, goal_parts, made_schemas, made_axioms, after_schemas, after_axioms}
use Rattle.normal_task.specs.Parts.{Made, in_turn}
use Rattle.normal_task.proofs.Alls.{all-left, all-right, all-weaker, all-by_both}
use Rattle.normal_task.proofs.Mentioned.{is_known_term, is_declared, is_known_mention, AreKnown}
use Rattle.normal_task.proofs.Scopes.{is_known}
use Rattle.normal_task.proofs.Fits.{fresh_fit, fresh-both, condition-fits}
use Rattle.normal_task.proofs.Bound.{in-inside, free-bound, terms-bound}
use Rattle.normal_task.proofs.ConditionsMean.{terms-objects}
use Rattle.normal_task.proofs.EffectsFit.{parameters-in_scope, effect-fits}
use Rattle.normal_task.proofs.FullStatesMatch.{declared, RuleSound}
use Rattle.normal_task.proofs.Filled.{GoalSound, first_fresh}
use Rattle.normal_task.proofs.StartsAndGoals.{is_known_entry}
use Rattle.normal_task.proofs.Written.{AreBasic, is_basic_mention}

module _ (domain : Domain) (problem : Problem) where
  term_known : (term : Term) → checked.is_known domain problem term ≡ true → is_known_term domain problem term ≡ true
  term_known (terms.Variable variable) is = refl
  term_known (terms.Object object) is = sym (object_among (objects domain problem) object.name) ∙ is

  mention_known : (mention : Mention) → checked.has_predicate domain mention ≡ true → checked.has_objects domain problem mention ≡ true → is_known_mention domain problem mention ≡ true
  mention_known mention predicate objects =
      and_from (list_all (λ (usage : Use). is_declared domain problem usage.name.name) (predicate_uses mention)) (list_all (is_known_term domain problem) (arguments mention))
      (all-weaker (names.has_arity domain.predicates) (λ usage. is_declared domain problem usage.name.name)
      (λ usage is. sym (declared_among domain.predicates usage.name.name) ∙ declared_with_arity domain.predicates usage is) (predicate_uses mention) predicate)
      (all-weaker (checked.is_known domain problem) (is_known_term domain problem) term_known (arguments mention) objects)

  -- a function that is mentioned is declared, or it is the total cost
  abbrev pub is_function_mention : Mention → Bool
  is_function_mention mention = list_all (λ (usage : Use). names.is_function domain usage.name.name) (function_uses mention)

  pub functions_known : (mentions : List Mention) → names.unknown_functions domain mentions ≡ [] → list_all is_function_mention mentions ≡ true
  functions_known mentions none =
      let uses = flat_map function_uses mentions in
      let passes : Named → Bool = λ named. names.is_function domain named.name in
      let all_names : List Named = map (λ (usage : Use). usage.name) uses in
      sym (all_flat_map (λ (usage : Use). names.is_function domain usage.name.name) function_uses mentions)
      ∙ sym (list_all-map passes (λ (usage : Use). usage.name) uses)
      ∙ all_pass passes (λ named. named.at) all_names none

  -- ---- what is declared

  module _ (none : check_faults domain problem ≡ []) where
    all_known : AreKnown domain problem (checked.mentions domain problem)
    all_known =
        all-by_both (checked.has_predicate domain) (checked.has_objects domain problem) (is_known_mention domain problem) mention_known (checked.mentions domain problem) (predicates_declared domain problem none) (objects_known domain problem none)

    pub known_in_problem : AreKnown domain problem (in_problem problem)
    known_in_problem = all-right (is_known_mention domain problem) (in_domain domain) (in_problem problem) all_known

    behind_heads : (test : Mention → Bool) → list_all test (in_domain domain) ≡ true → list_all test (flat_map in_action domain.actions ++ flat_map in_axiom domain.axioms) ≡ true
    behind_heads test all =
        all-right test (flat_map in_head domain.functions) (flat_map in_action domain.actions ++ flat_map in_axiom domain.axioms)
        (all-right test (flat_map in_head domain.predicates) (flat_map in_head domain.functions ++ (flat_map in_action domain.actions ++ flat_map in_axiom domain.axioms)) all)

    pub in_each_action : (test : Mention → Bool) → list_all test (in_domain domain) ≡ true → (action : Action) → Among action domain.actions → list_all test (in_action action) ≡ true
    in_each_action test all action among =
        all_passes (λ a. list_all test (in_action a)) action domain.actions among
        (sym (all_flat_map test in_action domain.actions) ∙ all-left test (flat_map in_action domain.actions) (flat_map in_axiom domain.axioms) (behind_heads test all))

    pub rule_sound : (rule : Derived) → Among rule domain.axioms → RuleSound domain problem rule
    rule_sound rule among =
        record {
          mentioned = each_part.in_each_axiom domain problem (is_known_mention domain problem) all_known rule among;
          bound = λ name free. by name free (is_listed rule.head.variables name) refl;
        }
      where
        by : (name : Name) → (known domain problem rule.body).is_free name ≡ true → (b : Bool) → is_listed rule.head.variables name ≡ b → is_listed rule.head.variables name ≡ true
        by name free true e = e
        by name free false e =
            absurd (false≢true (in-inside rule.head.variables [] name (free-bound domain problem rule.body (scopes.inside_of rule.head.variables []) (axiom_bound domain problem none rule among) name free) e))

    pub rules_sound : Each (RuleSound domain problem) domain.axioms
    rules_sound = each domain.axioms (λ rule among. rule_sound rule among)
      where
        each : (rules : List Derived) → ((rule : Derived) → Among rule rules → RuleSound domain problem rule) → Each (RuleSound domain problem) rules
        each [] sound = tt
        each (rule ∷ rules) sound = (sound rule (inl refl), each rules (λ r among. sound r (inr among)))

    pub goal_sound : GoalSound domain problem
    goal_sound =
        record {
          mentioned = all-right (is_known_mention domain problem) (flat_map in_init problem.init) (in_condition problem.goal) known_in_problem;
          bound = right_empty (flat_map scopes.in_init problem.init) (scopes.in_condition problem.goal []) (unbound_rows domain problem none).1;
        }

    pub action_mentioned : (action : Action) → Among action domain.actions → AreKnown domain problem (in_action action)
    action_mentioned = each_part.in_each_action domain problem (is_known_mention domain problem) all_known

    -- no effect of an action is on a derived predicate
    pub action_basic : (action : Action) → Among action domain.actions → AreBasic domain problem (in_action action)
    action_basic = each_part.in_each_action domain problem (is_basic_mention domain problem) (written_basic domain problem none)

    -- ---- the initial state

    entry_known : (entry : Init) → AreKnown domain problem (in_init entry) → scopes.in_init entry ≡ [] → is_known_entry domain problem entry ≡ true
    entry_known (inits.Holds atom) mentioned bound =
        let mention = (and_parts (is_known_mention domain problem (Written atom)) true mentioned).0 in
        let sides = and_parts (is_declared domain problem atom.predicate.name && true) (list_all (is_known_term domain problem) atom.terms) mention in
        and_from (is_declared domain problem atom.predicate.name) (list_all (is_known domain problem) (map (holds.object_of []) atom.terms)) (and_parts (is_declared domain problem atom.predicate.name) true sides.0).0
        (terms-objects domain problem [] [] [] atom.terms sides.1 (λ name is. absurd (false≢true (terms-bound [] atom.terms bound name is)))).1
    entry_known (inits.HoldsNot atom at) mentioned bound = refl
    entry_known (inits.Value term value at) mentioned bound = refl

    pub init_known : list_all (is_known_entry domain problem) problem.init ≡ true
    init_known =
        each problem.init (all-left (is_known_mention domain problem) (flat_map in_init problem.init) (in_condition problem.goal) known_in_problem)
        (left_empty (flat_map scopes.in_init problem.init) (scopes.in_condition problem.goal []) (unbound_rows domain problem none).1)
      where
        each : (entries : List Init) → AreKnown domain problem (flat_map in_init entries) → flat_map scopes.in_init entries ≡ [] → list_all (is_known_entry domain problem) entries ≡ true
        each [] mentioned bound = refl
        each (entry ∷ entries) mentioned bound =
            and_from (is_known_entry domain problem entry) (list_all (is_known_entry domain problem) entries)
            (entry_known entry (all-left (is_known_mention domain problem) (in_init entry) (flat_map in_init entries) mentioned) (left_empty (scopes.in_init entry) (flat_map scopes.in_init entries) bound))
            (each entries (all-right (is_known_mention domain problem) (in_init entry) (flat_map in_init entries) mentioned) (right_empty (scopes.in_init entry) (flat_map scopes.in_init entries) bound))

    -- ---- new predicates

    abbrev base : ℕ
    base = declared domain problem

    fits_in_turn : {X A : Type 0} (make : X → ℕ → Made A) (xs : List X) → ((x : X) → Among x xs → (next : ℕ) → fresh_fit base next (make x next).fresh ≡ true) → (next : ℕ) → fresh_fit base next (in_turn (map make xs) next).fresh ≡ true
    fits_in_turn make [] one next = refl
    fits_in_turn make (x ∷ xs) one next =
        fresh-both base next (make x next).fresh (in_turn (map make xs) (next + length (make x next).fresh)).fresh (one x (inl refl) next) (fits_in_turn make xs (λ y among. one y (inr among)) (next + length (make x next).fresh))

    action_fits : (action : Action) → Among action domain.actions → (next : ℕ) → fresh_fit base next (schemas domain problem action next).fresh ≡ true
    action_fits action among next =
        let in_scope = scopes.inside_of action.parameters [] in
        let bound = action_bound domain problem none action among in
        let mentioned = (and_parts (true && true) _ (action_mentioned action among)).1 in
        let first = precondition_parts domain problem action next in
        let later = next + length first.fresh in
        fresh-both base next first.fresh (effect_rows domain problem action later).fresh
        (condition-fits domain problem action.precondition (all-left (is_known_mention domain problem) (in_condition action.precondition) (in_effect action.effect) mentioned) true (parameter_scope domain problem action.parameters) (length action.parameters)
        (λ name free.
        parameters-in_scope domain problem action.parameters name
        (free-bound domain problem action.precondition in_scope (left_empty (scopes.in_condition action.precondition in_scope) (scopes.in_effect action.effect in_scope) bound) name free)) next).fresh
        (effect-fits domain problem action.effect (all-right (is_known_mention domain problem) (in_condition action.precondition) (in_effect action.effect) mentioned) [] in_scope (parameter_scope domain problem action.parameters) (length action.parameters)
        (right_empty (scopes.in_condition action.precondition in_scope) (scopes.in_effect action.effect in_scope) bound) (parameters-in_scope domain problem action.parameters) tt later)

    axiom_fits : (rule : Derived) → Among rule domain.axioms → (next : ℕ) → fresh_fit base next (axiom_rows domain problem rule next).fresh ≡ true
    axiom_fits rule among next =
        (condition-fits domain problem rule.body (and_parts (true && true) _ (and_parts ((is_declared domain problem rule.head.name.name && true) && true) _ (rule_sound rule among).mentioned).1).1 true (parameter_scope domain problem rule.head.variables) (length rule.head.variables)
        (λ name free. parameters-in_scope domain problem rule.head.variables name (free-bound domain problem rule.body (scopes.inside_of rule.head.variables []) (axiom_bound domain problem none rule among) name free)) next).fresh

    pub all_fit : fresh_fit base 0 (first_fresh domain problem) ≡ true
    all_fit =
        let schemas_made = (made_schemas domain problem).fresh in
        let axioms_made = (made_axioms domain problem).fresh in
        fresh-both base 0 schemas_made (axioms_made ++ (goal_parts domain problem).fresh) (fits_in_turn (schemas domain problem) domain.actions action_fits 0)
        (subst (λ (n : ℕ). fresh_fit base n (axioms_made ++ (goal_parts domain problem).fresh) ≡ true) (let same : after_schemas domain problem ≡ 0 + length schemas_made = omega arith in same)
        (fresh-both base (after_schemas domain problem) axioms_made (goal_parts domain problem).fresh (fits_in_turn (axiom_rows domain problem) domain.axioms axiom_fits (after_schemas domain problem))
        (condition-fits domain problem problem.goal goal_sound.mentioned true [] 0 (λ name free. absurd (false≢true (free-bound domain problem problem.goal [] goal_sound.bound name free))) (after_axioms domain problem)).fresh))
