-- Names that are declared twice, or used without a declaration.
use Rattle.std.specs.Prelude.{Bool, not, ◌&&◌, ◌||◌, ◌==◌, List, [], ◌∷◌, ◌++◌, map, length, if◌then◌else◌}
use Rattle.std.specs.List.{list_any, flat_map, filter}
use Rattle.pddl_lexer.specs.declared.position.At.{At}
use Rattle.pddl_syntax.specs.declared.types.Domain.{Domain}
use Rattle.pddl_syntax.specs.declared.types.Head.{Head}
use Rattle.pddl_syntax.specs.declared.types.Named.{Named}
use Rattle.pddl_syntax.specs.declared.types.Problem.{Problem}
use Rattle.pddl_syntax.specs.declared.types.Term.{Term}
use Rattle.pddl_syntax.specs.declared.types.Term.TheVariants.{Variable, Object}
use Rattle.pddl_syntax.specs.declared.types.Typed.{Typed}
use Rattle.pddl_syntax.specs.Words.{Name, is_same}
use Rattle.pddl_syntax.specs.Objects.{root, objects}
use Rattle.pddl_syntax.specs.Holds.{is_derived}
use Rattle.fault_positions.specs.Positions.{positions_where}
use Rattle.fault_positions.specs.Mentions.{Mention, Use, listed_variables, predicate_uses, function_uses, written_predicates, arguments, in_domain, in_problem, head_use}
use Rattle.fault_positions.specs.Increases.{total_cost}

-- ---- types

-- the entry of `:types` names the type, as the one that it declares or as a supertype
abbrev pub names_type : Name → Typed → Bool
names_type name entry = is_same entry.name.name name || list_any (λ parent. is_same parent.name name) entry.types

abbrev pub is_type : Domain → Name → Bool
is_type domain name = is_same name root || list_any (names_type name) domain.types

abbrev pub types_of : List Typed → List Named
types_of list = flat_map (λ typed. typed.types) list

abbrev pub unknown_types : Domain → List Named → List At
unknown_types domain types = positions_where (λ type. not (is_type domain type.name)) types

abbrev pub domain_types : Domain → List Named
domain_types domain = types_of domain.constants ++ flat_map (λ mention. types_of (listed_variables mention)) (in_domain domain)

abbrev pub problem_types : Problem → List Named
problem_types problem = types_of problem.objects ++ flat_map (λ mention. types_of (listed_variables mention)) (in_problem problem)

-- ---- names that stand a second time

-- the positions of the names that stand before: among these, or earlier in the list
abbrev pub repeats_after : List Name → List Named → List At
repeats_after before [] = []
repeats_after before (named ∷ more) = (if list_any (is_same named.name) before then named.at ∷ [] else []) ++ repeats_after (named.name ∷ before) more

abbrev pub repeats : List Named → List At
repeats names = repeats_after [] names

abbrev pub names_of : List Typed → List Named
names_of list = map (λ typed. typed.name) list

abbrev pub head_names : List Head → List Named
head_names heads = map (λ head. head.name) heads

abbrev pub repeated_variables : List Mention → List At
repeated_variables mentions = flat_map (λ mention. repeats (names_of (listed_variables mention))) mentions

abbrev pub domain_repeats : Domain → List At
domain_repeats domain =
    repeats (head_names domain.predicates)
    ++ (repeats (head_names domain.functions)
    ++ (repeats (map (λ action. action.name) domain.actions) ++ (repeats (names_of domain.constants) ++ repeated_variables (in_domain domain))))

abbrev pub problem_repeats : Domain → Problem → List At
problem_repeats domain problem =
    repeats_after (map (λ constant. constant.name.name) domain.constants) (names_of problem.objects) ++ repeated_variables (in_problem problem)

-- ---- predicates and functions

-- one of the heads has the name
abbrev pub is_declared : List Head → Name → Bool
is_declared heads name = list_any (λ head. is_same head.name.name name) heads

-- one of the heads has the name, and so many variables
abbrev pub has_arity : List Head → Use → Bool
has_arity heads usage = list_any (λ head. is_same head.name.name usage.name.name && (length head.variables == usage.arity)) heads

abbrev pub unknown_predicates : Domain → List Mention → List At
unknown_predicates domain mentions =
    positions_where (λ name. not (is_declared domain.predicates name.name)) (map (λ usage. usage.name) (flat_map predicate_uses mentions))

-- a function may be `total-cost` without a declaration
abbrev pub is_function : Domain → Name → Bool
is_function domain name = is_declared domain.functions name || is_same name total_cost

abbrev pub unknown_functions : Domain → List Mention → List At
unknown_functions domain mentions = positions_where (λ name. not (is_function domain name.name)) (map (λ usage. usage.name) (flat_map function_uses mentions))

-- `total-cost` has no arguments, and is declared with none or not at all; another function has as many arguments as declared
abbrev pub is_well_used : Domain → Use → Bool
is_well_used domain usage =
    if is_same usage.name.name total_cost
    then (usage.arity == 0) && (has_arity domain.functions usage || not (is_declared domain.functions total_cost))
    else has_arity domain.functions usage

abbrev pub use_positions : List Use → List At
use_positions uses = map (λ usage. usage.name.at) uses

abbrev pub wrong_uses : Domain → List Mention → List At
wrong_uses domain mentions =
    use_positions (filter (λ usage. not (has_arity domain.predicates usage)) (flat_map predicate_uses mentions))
    ++ use_positions (filter (λ usage. not (is_well_used domain usage)) (flat_map function_uses mentions))

-- `total-cost`, declared with arguments
abbrev pub total_cost_heads : Domain → List At
total_cost_heads domain = use_positions (filter (λ usage. is_same usage.name.name total_cost && not (usage.arity == 0)) (map head_use domain.functions))

abbrev pub domain_arities : Domain → List At
domain_arities domain = total_cost_heads domain ++ wrong_uses domain (in_domain domain)

-- ---- objects and derived predicates

-- the position of an argument that names no object
abbrev pub unknown_object : Domain → Problem → Term → List At
unknown_object domain problem (Variable variable) = []
unknown_object domain problem (Object object) =
    if list_any (λ known. is_same known.name.name object.name) (objects domain problem) then [] else object.at ∷ []

abbrev pub unknown_objects : Domain → Problem → List Mention → List At
unknown_objects domain problem mentions = flat_map (unknown_object domain problem) (flat_map arguments mentions)

abbrev pub written_derived : Domain → List Mention → List At
written_derived domain mentions = positions_where (λ name. is_derived domain name.name) (flat_map written_predicates mentions)
