-- What the parts of a checked pair mention is well declared, and its normal task has the tables for it.
use Rattle.std.proofs.Common.{◌≡◌, Bool, true, not, [], inr}
use Rattle.std.specs.List.{list_all, list_any}
use Rattle.std.proofs.lemmas.Bool.{and_from}
use Rattle.pddl_syntax.specs.declared.types.Action.{Action}
use Rattle.pddl_syntax.specs.declared.types.Derived.{Derived}
use Rattle.pddl_syntax.specs.declared.types.Domain.{Domain}
use Rattle.pddl_syntax.specs.declared.types.Named.{Named}
use Rattle.pddl_syntax.specs.declared.types.Problem.{Problem}
use Rattle.pddl_syntax.specs.Words.{is_same}
use Rattle.pddl_syntax.specs.Holds.{is_derived}
use Rattle.fault_positions.specs.Mentions.{Mention, written_predicates, in_condition, in_effect, in_action, in_axiom}
use Rattle.type_checker.specs.Faultless.{mentions, has_predicate, has_objects, is_basic}
use Rattle.type_checker.specs.Faults.{check_faults}
use Rattle.type_checker.proofs.Basic.{written_basic}
use Rattle.type_checker.proofs.Declared.{predicates_declared, objects_known}
use Rattle.type_checker.proofs.EachPart.{in_each_action, in_each_axiom, in_goal}
use Rattle.lists.proofs.Items.{Among, all_passes, any_passes, each_passes, among_right}
use Rattle.normal_task.specs.declared.task.Normal.{Normal}
use Rattle.normal_task.specs.Normalised.{is_changed, normal}
use Rattle.normal_task.proofs.KnownEffects.{is_change, AreChanges}
use Rattle.normal_task.proofs.KnownParts.{all-by_both, HasTables, well_mentioned, AreWell}
use Rattle.normal_task.proofs.PredicateTable.{declared-arity, declared-changed}
use Rattle.normal_task.proofs.RisingRanges.{object-is, range-is}
use Rattle.pddl_syntax.proofs.Steps.{name_same}

module _ (domain : Domain) (problem : Problem) where
  abbrev task : Normal
  task = normal domain problem

  module _ (none : check_faults domain problem ≡ []) where
    pub tables : HasTables domain problem task
    tables = record { predicates = declared-arity domain problem none; written = declared-changed domain problem none; objects = object-is domain problem; ranges = range-is domain problem none }

    abbrev is_well : Mention → Bool
    is_well = well_mentioned domain problem task tables

    all-well : list_all is_well (mentions domain problem) ≡ true
    all-well =
        all-by_both (has_predicate domain) (has_objects domain problem) is_well (λ mention one other. and_from (has_predicate domain mention) (has_objects domain problem mention) one other)
        (mentions domain problem) (predicates_declared domain problem none) (objects_known domain problem none)

    pub action-well : (action : Action) → Among action domain.actions → AreWell domain problem task tables (in_action action)
    action-well = in_each_action domain problem is_well all-well

    pub rule-well : (rule : Derived) → Among rule domain.axioms → AreWell domain problem task tables (in_axiom rule)
    rule-well = in_each_axiom domain problem is_well all-well

    pub goal-well : AreWell domain problem task tables (in_condition problem.goal)
    goal-well = in_goal domain problem is_well all-well

    -- what an effect of an action writes is basic, and changed by the action
    pub action-changes : (action : Action) → Among action domain.actions → AreChanges domain problem task tables (in_effect action.effect)
    action-changes action among =
        each_passes (λ mention. list_all (is_change domain problem task tables) (written_predicates mention)) (in_effect action.effect)
        (λ mention inside. each_passes (is_change domain problem task tables) (written_predicates mention) (λ named written. change mention inside named written))
      where
        basic : (mention : Mention) → Among mention (in_effect action.effect) → is_basic domain mention ≡ true
        basic mention inside =
            all_passes (is_basic domain) mention (in_action action) (inr (among_right mention (in_condition action.precondition) (in_effect action.effect) inside))
            (in_each_action domain problem (is_basic domain) (written_basic domain problem none) action among)

        change : (mention : Mention) → Among mention (in_effect action.effect) → (named : Named) → Among named (written_predicates mention) → is_change domain problem task tables named ≡ true
        change mention inside named written =
            and_from (not (is_derived domain named.name)) (is_changed domain problem named.name)
            (all_passes (λ (name : Named). not (is_derived domain name.name)) named (written_predicates mention) written (basic mention inside))
            (any_passes (λ (a : Action). list_any (λ mention. list_any (λ (other : Named). is_same other.name named.name) (written_predicates mention)) (in_effect a.effect)) action domain.actions among
            (any_passes (λ mention. list_any (λ (other : Named). is_same other.name named.name) (written_predicates mention)) mention (in_effect action.effect) inside
            (any_passes (λ (other : Named). is_same other.name named.name) named (written_predicates mention) written (name_same named.name))))
