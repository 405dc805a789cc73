-- In a pair without check faults what is mentioned is declared, with as many arguments, and names objects.
use Rattle.std.proofs.Common.{◌≡◌, Bool, true, not, ◌&&◌, List, [], map, length, nat_eq, inl, inr, refl, sym, ◌∙◌}
use Rattle.std.specs.List.{list_all, list_any, filter, flat_map}
use Rattle.std.proofs.lemmas.Bool.{and_parts}
use Rattle.std.proofs.lemmas.Cmp.{nat_list_eq_equiv}
use Rattle.pddl_lexer.specs.declared.position.At.{At}
use Rattle.pddl_syntax.specs.declared.types.Domain.{Domain}
use Rattle.pddl_syntax.specs.declared.types.Head.{Head}
use Rattle.pddl_syntax.specs.declared.types.Problem.{Problem}
use Rattle.pddl_syntax.specs.declared.types.Term.{Term}
use Rattle.pddl_syntax.specs.declared.types.Term.TheVariants.{Variable, Object}
use Rattle.pddl_syntax.specs.declared.types.Typed.{Typed}
use Rattle.pddl_syntax.specs.Words.{Name, is_same}
use Rattle.fault_positions.specs.Mentions.{Mention, Use, predicate_uses, function_uses, arguments, in_domain, in_problem}
use Rattle.fault_positions.specs.Names.{has_arity, is_declared, is_well_used, use_positions, total_cost_heads, wrong_uses, unknown_object, unknown_objects}
use Rattle.type_checker.specs.Faultless.{mentions, has_predicate, has_function, is_known, has_objects}
use Rattle.type_checker.specs.Faults.{check_faults}
use Rattle.lists.proofs.Items.{all_both, any_map, any_passes, each_passes, passing, piece_empty, same_any}
use Rattle.type_checker.proofs.NoFaults.{left_empty, right_empty, row_empty, unless_there, all_pass, all_pieces}

-- ---- predicates and functions

uses_pass : (test : Use → Bool) (given : Mention → List Use) (list : List Mention) → use_positions (filter (λ usage. not (test usage)) (flat_map given list)) ≡ [] → list_all (λ mention. list_all test (given mention)) list ≡ true
uses_pass test given list none = all_pieces test given list (all_pass test (λ usage. usage.name.at) (flat_map given list) none)

module _ (domain : Domain) where
  abbrev wrong_predicates : List Mention → List At
  wrong_predicates list = use_positions (filter (λ usage. not (has_arity domain.predicates usage)) (flat_map predicate_uses list))

  abbrev wrong_functions : List Mention → List At
  wrong_functions list = use_positions (filter (λ usage. not (is_well_used domain usage)) (flat_map function_uses list))

  predicates_pass : (list : List Mention) → wrong_uses domain list ≡ [] → list_all (has_predicate domain) list ≡ true
  predicates_pass list none = uses_pass (has_arity domain.predicates) predicate_uses list (left_empty (wrong_predicates list) (wrong_functions list) none)

  functions_pass : (list : List Mention) → wrong_uses domain list ≡ [] → list_all (has_function domain) list ≡ true
  functions_pass list none = uses_pass (is_well_used domain) function_uses list (right_empty (wrong_predicates list) (wrong_functions list) none)

-- ---- objects

module _ (domain : Domain) (problem : Problem) where
  terms_pass : (terms : List Term) → flat_map (unknown_object domain problem) terms ≡ [] → list_all (is_known domain problem) terms ≡ true
  terms_pass terms none = each_passes (is_known domain problem) terms (λ term among. known term (piece_empty (unknown_object domain problem) terms none term among))
    where
      known : (term : Term) → unknown_object domain problem term ≡ [] → is_known domain problem term ≡ true
      known (Variable variable) none = refl
      known (Object object) none = unless_there (is_known domain problem (Object object)) object.at none

  objects_pass : (list : List Mention) → unknown_objects domain problem list ≡ [] → list_all (has_objects domain problem) list ≡ true
  objects_pass list none = all_pieces (is_known domain problem) arguments list (terms_pass (flat_map arguments list) none)

  -- ---- of both files

  module _ (none : check_faults domain problem ≡ []) where
    arities : (wrong_uses domain (in_domain domain) ≡ []) × (wrong_uses domain (in_problem problem) ≡ [])
    arities =
        let positions = row_empty domain problem none _ (inr (inr (inr (inr (inr (inl refl)))))) in
        (right_empty (total_cost_heads domain) (wrong_uses domain (in_domain domain)) positions.0, positions.1)

    pub predicates_declared : list_all (has_predicate domain) (mentions domain problem) ≡ true
    predicates_declared = all_both (has_predicate domain) (in_domain domain) (in_problem problem) (predicates_pass domain (in_domain domain) arities.0) (predicates_pass domain (in_problem problem) arities.1)

    pub functions_declared : list_all (has_function domain) (mentions domain problem) ≡ true
    functions_declared = all_both (has_function domain) (in_domain domain) (in_problem problem) (functions_pass domain (in_domain domain) arities.0) (functions_pass domain (in_problem problem) arities.1)

    pub objects_known : list_all (has_objects domain problem) (mentions domain problem) ≡ true
    objects_known =
        let positions = row_empty domain problem none _ (inr (inr (inr (inr (inr (inr (inl refl))))))) in
        all_both (has_objects domain problem) (in_domain domain) (in_problem problem) (objects_pass (in_domain domain) positions.0) (objects_pass (in_problem problem) positions.1)

-- ---- the same in other words

-- what is declared with so many arguments is declared
pub declared_with_arity : (heads : List Head) (usage : Use) → has_arity heads usage ≡ true → is_declared heads usage.name.name ≡ true
declared_with_arity heads usage some =
    let is_named = λ (head : Head). is_same head.name.name usage.name.name in
    let has_as_many = λ (head : Head). nat_eq (length head.variables) usage.arity in
    let found = passing (λ head. is_named head && has_as_many head) heads some in
    any_passes is_named found.item heads found.among (and_parts (is_named found.item) (has_as_many found.item) found.passes).0

-- one of them has the name
among_names : {X : Type 0} (name_of : X → Name) (xs : List X) (name : Name) → list_any (λ x. is_same (name_of x) name) xs ≡ list_any (is_same name) (map name_of xs)
among_names name_of xs name =
    same_any (λ x. is_same (name_of x) name) (λ x. is_same name (name_of x)) xs (λ x among. nat_list_eq_equiv.symm (name_of x) name) ∙ sym (any_map (is_same name) name_of xs)

pub declared_among : (heads : List Head) (name : Name) → is_declared heads name ≡ list_any (is_same name) (map (λ head. head.name.name) heads)
declared_among = among_names (λ (head : Head). head.name.name)

pub object_among : (list : List Typed) (name : Name) → list_any (λ known. is_same known.name.name name) list ≡ list_any (is_same name) (map (λ object. object.name.name) list)
object_among = among_names (λ (object : Typed). object.name.name)
