-- The initial atoms and values of a checked pair's normal task are of objects, and of predicates with as many arguments.
use Rattle.std.proofs.Common.{◌≡◌, ℕ, ◌≤◌, Bool, true, false, not, ◌&&◌, List, [], ◌∷◌, map, length, refl, sym, ◌∙◌, subst}
use Rattle.std.specs.Prelude.{nat_le, codes, if◌then◌else◌}
use Rattle.std.specs.List.{list_all, flat_map}
use Rattle.std.proofs.lemmas.Bool.{and_parts, and_from, not-true, le-leb}
use Rattle.std.proofs.lemmas.List.Elements.{All-contains}
use Rattle.pddl_syntax.specs.declared.types.Atom.{Atom}
use Rattle.pddl_syntax.specs.declared.types.Domain.{Domain}
use Rattle.pddl_syntax.specs.declared.types.Init.{Init}
use Rattle.pddl_syntax.specs.declared.types.Init.TheVariants as inits
use Rattle.pddl_syntax.specs.declared.types.Problem.{Problem}
use Rattle.pddl_syntax.specs.declared.types.Term.{Term}
use Rattle.pddl_syntax.specs.declared.types.Term.TheVariants as terms
use Rattle.pddl_syntax.specs.Objects.{objects}
use Rattle.pddl_syntax.specs.Words.{is_same}
use Rattle.pddl_syntax.specs.Holds.{object_of, is_derived, ground}
use Rattle.pddl_syntax.specs.Spelled.{HasSmallValue, IsWellSpelledProblem}
use Rattle.fault_positions.specs.Mentions.{Written, Function, use_of}
use Rattle.fault_positions.specs.Names.{has_arity}
use Rattle.fault_positions.specs.Scopes.{unbound_terms}
use Rattle.type_checker.specs.Faultless.{has_predicate, is_known, has_objects, is_basic}
use Rattle.type_checker.specs.Faults.{check_faults}
use Rattle.type_checker.proofs.Basic.{written_basic}
use Rattle.type_checker.proofs.Bound.{entry_bound}
use Rattle.type_checker.proofs.Declared.{predicates_declared, objects_known, object_among}
use Rattle.type_checker.proofs.EachPart.{in_each_entry}
use Rattle.lists.proofs.Items.{Among, contains_among, each_passes, all_flat_map}
use Rattle.normal_task.specs.declared.task.Normal.{Normal}
use Rattle.normal_task.specs.declared.task.ValueRow.{ValueRow}
use Rattle.normal_task.specs.Lawful as lawful
use Rattle.normal_task.specs.Lawful.{most, is_object, is_predicate, is_init, is_value}
use Rattle.normal_task.specs.Meaning.{is_same_atom, is_same_value}
use Rattle.normal_task.specs.Normalised.{numbered_atom, stated, value_row, normal}
use Rattle.normal_task.specs.Numbers.{object_number, predicate_number, function_number}
use Rattle.normal_task.proofs.OnceEach.{once-passes}
use Rattle.normal_task.proofs.PredicateTable.{declared-basic}
use Rattle.normal_task.proofs.RisingRanges.{object-is}
use Rattle.normal_task.proofs.Scopes.{length-map}

module _ (domain : Domain) (problem : Problem) where
  abbrev task : Normal
  task = normal domain problem

  -- terms without variables are objects
  ground-objects : (list : List Term) → list_all (is_known domain problem) list ≡ true → unbound_terms [] list ≡ [] → list_all (is_object task) (map (object_number domain problem) (map (object_of []) list)) ≡ true
  ground-objects [] known bound = refl
  ground-objects (terms.Variable variable ∷ list) known bound = absurd cc
  ground-objects (terms.Object object ∷ list) known bound =
      let parts = and_parts (is_known domain problem (terms.Object object)) (list_all (is_known domain problem) list) known in
      and_from (is_object task (object_number domain problem object.name)) (list_all (is_object task) (map (object_number domain problem) (map (object_of []) list)))
      (object-is domain problem object.name (sym (object_among (objects domain problem) object.name) ∙ parts.0)) (ground-objects list parts.1 bound)

  module _ (none : check_faults domain problem ≡ []) where
    atom-is : (atom : Atom) → has_arity domain.predicates (use_of atom) ≡ true → is_derived domain atom.predicate.name ≡ false → list_all (is_known domain problem) atom.terms ≡ true → unbound_terms [] atom.terms ≡ [] →
        is_init task (numbered_atom domain problem (ground [] atom)) ≡ true
    atom-is atom declared basic known bound =
        let objects_are = ground-objects atom.terms known bound in
        let long = length-map (object_number domain problem) (map (object_of []) atom.terms) ∙ length-map (object_of []) atom.terms in
        and_from (list_all (is_object task) (numbered_atom domain problem (ground [] atom)).objects)
        (is_predicate task (λ row. lawful.has_arity task (length (numbered_atom domain problem (ground [] atom)).objects) row && not row.derived) (predicate_number domain atom.predicate.name)) objects_are
        (subst (λ (n : ℕ). is_predicate task (λ row. lawful.has_arity task n row && not row.derived) (predicate_number domain atom.predicate.name) ≡ true) (sym long) (declared-basic domain problem none (use_of atom) basic declared))

    entry-atoms : (entry : Init) → Among entry problem.init → list_all (is_init task) (stated domain problem entry) ≡ true
    entry-atoms (inits.HoldsNot atom at) among = refl
    entry-atoms (inits.Value term value at) among = refl
    entry-atoms (inits.Holds atom) among =
        let declared = in_each_entry domain problem (has_predicate domain) (predicates_declared domain problem none) (inits.Holds atom) among in
        let known = in_each_entry domain problem (has_objects domain problem) (objects_known domain problem none) (inits.Holds atom) among in
        let basic = in_each_entry domain problem (is_basic domain) (written_basic domain problem none) (inits.Holds atom) among in
        and_from (is_init task (numbered_atom domain problem (ground [] atom))) true
        (atom-is atom
        (and_parts (has_arity domain.predicates (use_of atom)) true (and_parts (has_predicate domain (Written atom)) true declared).0).0
        (not-true (is_derived domain atom.predicate.name) (and_parts (not (is_derived domain atom.predicate.name)) true (and_parts (is_basic domain (Written atom)) true basic).0).0)
        (and_parts (has_objects domain problem (Written atom)) true known).0 (entry_bound domain problem none (inits.Holds atom) among)) refl

    pub init-are : list_all (is_init task) task.init ≡ true
    init-are =
        once-passes domain problem is_same_atom (is_init task) [] (flat_map (stated domain problem) problem.init)
        (all_flat_map (is_init task) (stated domain problem) problem.init ∙ each_passes (λ entry. list_all (is_init task) (stated domain problem entry)) problem.init entry-atoms)

    entry-values : IsWellSpelledProblem problem → (entry : Init) → Among entry problem.init → list_all (is_value task) (value_row domain problem entry) ≡ true
    entry-values spelled (inits.Holds atom) among = refl
    entry-values spelled (inits.HoldsNot atom at) among = refl
    entry-values spelled (inits.Value term value at) among = by (is_same term.predicate.name (codes "total-cost"))
      where
        row : ValueRow
        row = record { function = function_number domain term.predicate.name; objects = map (object_number domain problem) (ground [] term).objects; value = value }

        small : value ≤ most
        small = All-contains HasSmallValue problem.init (inits.Value term value at) spelled.values (contains_among problem.init (inits.Value term value at) among)

        known : list_all (is_known domain problem) term.terms ≡ true
        known =
            (and_parts (has_objects domain problem (Function term)) true (in_each_entry domain problem (has_objects domain problem) (objects_known domain problem none) (inits.Value term value at) among)).0

        objects_are : list_all (is_object task) row.objects ≡ true
        objects_are = ground-objects term.terms known (entry_bound domain problem none (inits.Value term value at) among)

        by : (total : Bool) → list_all (is_value task) (if total then [] else row ∷ []) ≡ true
        by true = refl
        by false = and_from (is_value task row) true (and_from (list_all (is_object task) row.objects) (nat_le row.value most) objects_are (le-leb value most small)) refl

    pub values-are : IsWellSpelledProblem problem → list_all (is_value task) task.values ≡ true
    values-are spelled =
        once-passes domain problem is_same_value (is_value task) [] (flat_map (value_row domain problem) problem.init)
        (all_flat_map (is_value task) (value_row domain problem) problem.init ∙ each_passes (λ entry. list_all (is_value task) (value_row domain problem entry)) problem.init (entry-values spelled))
