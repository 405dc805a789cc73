-- In a pair without check faults an action has at most one increase. It is outermost, and a term that it names is a declared function, other than the total cost, of objects and bound variables.
use Rattle.std.proofs.Common.{◌≡◌, ◌+◌, Bool, true, false, not, ◌&&◌, List, [], ◌∷◌, ◌++◌, map, length, nat_eq, inl, inr, refl, sym, ap, ◌∙◌, subst}
use Rattle.std.specs.Prelude.{◌||◌, nat_le, if◌then◌else◌}
use Rattle.std.specs.List.{list_all, flat_map}
use Rattle.std.proofs.lemmas.Bool.{and_parts, and_from, not-true, false≢true}
use Rattle.std.proofs.lemmas.List.{length-append}
use Rattle.pddl_lexer.specs.declared.position.At.{At}
use Rattle.pddl_syntax.specs.declared.types.Action.{Action}
use Rattle.pddl_syntax.specs.declared.types.Atom.{Atom}
use Rattle.pddl_syntax.specs.declared.types.Cost.{Cost}
use Rattle.pddl_syntax.specs.declared.types.Cost.TheVariants.{Number, Term}
use Rattle.pddl_syntax.specs.declared.types.Domain.{Domain}
use Rattle.pddl_syntax.specs.declared.types.Effect.{Effect, Effect-F}
use Rattle.pddl_syntax.specs.declared.types.Problem.{Problem}
use Rattle.pddl_syntax.specs.Step as step
use Rattle.pddl_syntax.specs.Words.{is_same}
use Rattle.lists.proofs.Items.{Among, Each, each_both, all_passes, each_passes, all_left, all_right}
use Rattle.fault_positions.specs.Increases.{Depth, Outermost, Inner, Increase, total_cost, joined_depth, may_stand, is_proper, is_total_cost_term, increases_step, increases, ill_formed}
use Rattle.fault_positions.specs.Mentions.{Mention, Variables, Function, use_of, in_condition, in_effect, in_action, effect_step}
use Rattle.fault_positions.specs.Names.{has_arity, is_declared, is_well_used}
use Rattle.fault_positions.specs.Scopes as scopes
use Rattle.fault_positions.specs.Scopes.{Scope, inside_of}
use Rattle.type_checker.specs.Faultless.{has_function, is_known, has_objects, is_one_cost}
use Rattle.type_checker.specs.Faults.{check_faults}
use Rattle.type_checker.proofs.Bound.{action_bound}
use Rattle.type_checker.proofs.Declared.{functions_declared, objects_known}
use Rattle.type_checker.proofs.EachPart.{in_each_action}
use Rattle.type_checker.proofs.EffectFolds.{by_folds}
use Rattle.type_checker.proofs.NoFaults.{left_empty, right_empty, piece_empty, row_empty, unless_there}

-- ---- the form of an effect's increases

one_cost : (list : List Increase) → ill_formed list ≡ [] → is_one_cost list ≡ true
one_cost [] none = refl
one_cost (increase ∷ []) none = unless_there increase.is_formed increase.at (left_empty (if increase.is_formed then [] else increase.at ∷ []) [] none)
one_cost (increase ∷ other ∷ more) none =
    absurd (cc (right_empty (if increase.is_formed then [] else increase.at ∷ []) (other.at ∷ map (λ (other : Increase). other.at) more) none))

all_formed : (list : List Increase) → is_one_cost list ≡ true → list_all (λ increase. increase.is_formed) list ≡ true
all_formed [] one = refl
all_formed (increase ∷ []) one = and_from increase.is_formed true one refl
all_formed (increase ∷ other ∷ more) one = absurd (false≢true one)

one_at_most : (list : List Increase) → is_one_cost list ≡ true → nat_le (length list) 1 ≡ true
one_at_most [] one = refl
one_at_most (increase ∷ []) one = refl
one_at_most (increase ∷ other ∷ more) one = absurd (false≢true one)

-- ---- the costs of an effect

module _ (domain : Domain) (problem : Problem) where
  -- the term of a cost is a declared function, other than the total cost, of known objects and of bound variables
  abbrev pub CostSound : Scope → Cost → Type 0
  CostSound scope (Number number) = Unit {0}
  CostSound scope (Term term) =
      (scopes.unbound_terms scope term.terms ≡ []) × (list_all (is_known domain problem) term.terms ≡ true) × (has_arity domain.functions (use_of term) ≡ true) × (is_same term.predicate.name total_cost ≡ false)

  abbrev is_sound : Mention → Bool
  is_sound mention = has_function domain mention && has_objects domain problem mention

  abbrev AreFormed : List Increase → Type 0
  AreFormed list = list_all (λ increase. increase.is_formed) list ≡ true

  abbrev CostsSound : List Cost → (Depth → List Increase) → (Scope → List At) → List Mention → Type 0
  CostsSound costs list unbound mentions =
      ((depth : Depth) → length (list depth) ≡ length costs)
      × (AreFormed (list Inner) → costs ≡ [])
      × ((depth : Depth) → AreFormed (list depth) → (scope : Scope) → unbound scope ≡ [] → list_all is_sound mentions ≡ true → Each (CostSound scope) costs)

  abbrev Sound : Effect → Type 0
  Sound effect = CostsSound (step.increases effect) (increases effect) (scopes.in_effect effect) (in_effect effect)

  abbrev at_depth : Depth → List Effect → List Increase
  at_depth depth members = flat_map (λ (member : Depth → List Increase). member depth) (map increases members)

  abbrev all_costs : List Effect → List Cost
  all_costs members = flat_map (λ (costs : List Cost). costs) (map step.increases members)

  members_count : (members : List Effect) → Each Sound members → (depth : Depth) → length (at_depth depth members) ≡ length (all_costs members)
  members_count [] each depth = refl
  members_count (member ∷ members) each depth =
      length-append (increases member depth) (at_depth depth members)
      ∙ ap (λ n. n + length (at_depth depth members)) (each.0.0 depth)
      ∙ ap (λ n. length (step.increases member) + n) (members_count members each.1 depth)
      ∙ sym (length-append (step.increases member) (all_costs members))

  none_inner : (members : List Effect) → Each Sound members → AreFormed (at_depth Inner members) → all_costs members ≡ []
  none_inner [] each formed = refl
  none_inner (member ∷ members) each formed =
      let here = each.0.1 (all_left (λ (increase : Increase). increase.is_formed) (increases member Inner) (at_depth Inner members) formed) in
      let rest = none_inner members each.1 (all_right (λ (increase : Increase). increase.is_formed) (increases member Inner) (at_depth Inner members) formed) in
      ap (λ (costs : List Cost). costs ++ all_costs members) here ∙ rest

  members_sound : (members : List Effect) → Each Sound members → (depth : Depth) → AreFormed (at_depth depth members) → (scope : Scope) →
      flat_map (λ member. member scope) (map scopes.in_effect members) ≡ [] → list_all is_sound (flat_map (λ mentions. mentions) (map in_effect members)) ≡ true → Each (CostSound scope) (all_costs members)
  members_sound [] each depth formed scope unbound mentioned = tt
  members_sound (member ∷ members) each depth formed scope unbound mentioned =
      let others = flat_map (λ member. member scope) (map scopes.in_effect members) in
      let mentions = flat_map (λ mentions. mentions) (map in_effect members) in
      each_both (CostSound scope) (step.increases member) (all_costs members)
      (each.0.2 depth (all_left (λ (increase : Increase). increase.is_formed) (increases member depth) (at_depth depth members) formed) scope
      (left_empty (scopes.in_effect member scope) others unbound) (all_left is_sound (in_effect member) mentions mentioned))
      (members_sound members each.1 depth (all_right (λ (increase : Increase). increase.is_formed) (increases member depth) (at_depth depth members) formed) scope
      (right_empty (scopes.in_effect member scope) others unbound) (all_right is_sound (in_effect member) mentions mentioned))

  increase_sound : (term : Atom) (cost : Cost) (at : At) →
      CostsSound (step.increases_step (Effect-F.Increase term cost at)) (increases_step (Effect-F.Increase term cost at)) (scopes.effect_step (Effect-F.Increase term cost at)) (effect_step (Effect-F.Increase term cost at))
  increase_sound term cost at = ((λ depth. refl), (λ formed. absurd (false≢true formed)), λ depth formed scope unbound mentioned. (by cost depth formed scope unbound mentioned, tt))
    where
      other_cost : (cost : Cost) (depth : Depth) → AreFormed (increases_step (Effect-F.Increase term cost at) depth) → is_total_cost_term cost ≡ false
      other_cost cost depth formed =
          let one = (and_parts (may_stand depth && is_proper term cost) true formed).0 in
          let proper = (and_parts (may_stand depth) (is_proper term cost) one).1 in
          not-true (is_total_cost_term cost) (and_parts (is_same term.predicate.name total_cost) (not (is_total_cost_term cost)) proper).1

      -- what is well used and isn't the total cost is declared
      declared : (function : Atom) → is_well_used domain (use_of function) ≡ true → is_same function.predicate.name total_cost ≡ false → has_arity domain.functions (use_of function) ≡ true
      declared function used other =
          subst (λ (total : Bool). (if total then nat_eq (length function.terms) 0 && (has_arity domain.functions (use_of function) || not (is_declared domain.functions total_cost)) else has_arity domain.functions (use_of function)) ≡ true)
          other used

      by : (cost : Cost) (depth : Depth) → AreFormed (increases_step (Effect-F.Increase term cost at) depth) → (scope : Scope) → scopes.effect_step (Effect-F.Increase term cost at) scope ≡ [] →
          list_all is_sound (effect_step (Effect-F.Increase term cost at)) ≡ true → CostSound scope cost
      by (Number number) depth formed scope unbound mentioned = tt
      by (Term function) depth formed scope unbound mentioned =
          let second = (and_parts (is_sound (Function function)) true (and_parts (is_sound (Function term)) (is_sound (Function function) && true) mentioned).1).0 in
          let sides = and_parts (has_function domain (Function function)) (has_objects domain problem (Function function)) second in
          let other = other_cost (Term function) depth formed in (
            right_empty (scopes.unbound_terms scope term.terms) (scopes.unbound_terms scope function.terms) unbound,
            sides.1,
            declared function (and_parts (is_well_used domain (use_of function)) true sides.0).0 other,
            other,
          )

  sound : (effect : Effect) → Sound effect
  sound = by_folds (List Cost) (Depth → List Increase) (Scope → List At) (List Mention) step.increases_step increases_step scopes.effect_step effect_step CostsSound record {
    at_nothing = λ at. ((λ depth. refl), (λ formed. refl), λ depth formed scope unbound mentioned. tt);
    at_add = λ atom. ((λ depth. refl), (λ formed. refl), λ depth formed scope unbound mentioned. tt);
    at_delete = λ atom. ((λ depth. refl), (λ formed. refl), λ depth formed scope unbound mentioned. tt);
    at_and = λ members at held.
        ((λ depth. members_count members held (joined_depth depth)), none_inner members held, λ depth formed scope unbound mentioned. members_sound members held (joined_depth depth) formed scope unbound mentioned);
    at_when = λ condition inside at held.
        ((λ depth. held.0 Inner), (λ formed. held.1 formed), λ depth formed scope unbound mentioned. subst (Each (CostSound scope)) (sym (held.1 formed)) tt);
    at_forall = λ variables inside at held.
        ((λ depth. held.0 Inner), (λ formed. held.1 formed), λ depth formed scope unbound mentioned. subst (Each (CostSound scope)) (sym (held.1 formed)) tt);
    at_increase = increase_sound;
  }

  -- ---- the actions of a pair

  module _ (none : check_faults domain problem ≡ []) where
    pub one_increase : (action : Action) → Among action domain.actions → is_one_cost (increases action.effect Outermost) ≡ true
    one_increase action among =
        let positions = row_empty domain problem none _ (inr (inr (inr (inr (inr (inr (inr (inr (inr (inr (inr (inr (inl refl))))))))))))) in
        one_cost (increases action.effect Outermost) (piece_empty (λ action. ill_formed (increases action.effect Outermost)) domain.actions positions.0 action among)

    pub at_most_one : (action : Action) → Among action domain.actions → nat_le (length (step.increases action.effect)) 1 ≡ true
    at_most_one action among = ap (λ n. nat_le n 1) (sym ((sound action.effect).0 Outermost)) ∙ one_at_most (increases action.effect Outermost) (one_increase action among)

    pub costs_sound : (action : Action) → Among action domain.actions → Each (CostSound (inside_of action.parameters [])) (step.increases action.effect)
    costs_sound action among =
        let scope = inside_of action.parameters [] in
        (sound action.effect).2 Outermost (all_formed (increases action.effect Outermost) (one_increase action among)) scope
        (right_empty (scopes.in_condition action.precondition scope) (scopes.in_effect action.effect scope) (action_bound domain problem none action among)) in_its_effect
      where
        both_tests : (list : List Mention) → list_all (has_function domain) list ≡ true → list_all (has_objects domain problem) list ≡ true → list_all is_sound list ≡ true
        both_tests list functions objects =
            each_passes is_sound list
            (λ mention there. and_from (has_function domain mention) (has_objects domain problem mention) (all_passes (has_function domain) mention list there functions) (all_passes (has_objects domain problem) mention list there objects))

        in_its_effect : list_all is_sound (in_effect action.effect) ≡ true
        in_its_effect =
            let functions = in_each_action domain problem (has_function domain) (functions_declared domain problem none) action among in
            let objects = in_each_action domain problem (has_objects domain problem) (objects_known domain problem none) action among in
            all_right is_sound (Variables action.parameters ∷ in_condition action.precondition) (in_effect action.effect) (both_tests (in_action action) functions objects)

    pub increases_formed : list_all (λ action. is_one_cost (increases action.effect Outermost)) domain.actions ≡ true
    increases_formed = each_passes (λ action. is_one_cost (increases action.effect Outermost)) domain.actions one_increase

    pub increases_counted : list_all (λ action. nat_le (length (step.increases action.effect)) 1) domain.actions ≡ true
    increases_counted = each_passes (λ action. nat_le (length (step.increases action.effect)) 1) domain.actions at_most_one
