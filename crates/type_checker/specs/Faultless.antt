-- What a domain and a problem without check faults have.
use Rattle.std.specs.Prelude.{ℕ, Bool, true, false, not, ◌==◌, nat_le, List, [], ◌∷◌, ◌++◌, Option, Some, None}
use Rattle.std.specs.List.{list_any, list_all}
use Rattle.pddl_syntax.specs.declared.types.Domain.{Domain}
use Rattle.pddl_syntax.specs.declared.types.Init.{Init}
use Rattle.pddl_syntax.specs.declared.types.Init.TheVariants.{Holds, HoldsNot, Value}
use Rattle.pddl_syntax.specs.declared.types.Problem.{Problem}
use Rattle.pddl_syntax.specs.declared.types.Term.{Term}
use Rattle.pddl_syntax.specs.declared.types.Term.TheVariants.{Variable, Object}
use Rattle.pddl_syntax.specs.Words.{is_same}
use Rattle.pddl_syntax.specs.Objects.{objects}
use Rattle.pddl_syntax.specs.Holds.{ground, is_derived}
use Rattle.pddl_syntax.specs.Plan.{is_stated}
use Rattle.pddl_syntax.specs.Step.{value_in}
use Rattle.fault_positions.specs.Increases.{Increase}
use Rattle.fault_positions.specs.Mentions.{Mention, predicate_uses, function_uses, written_predicates, arguments, in_domain, in_problem}
use Rattle.fault_positions.specs.Names.{has_arity, is_well_used}
use Rattle.fault_positions.specs.Sizes.{Cut, most_parts}

-- ---- what is mentioned

-- what the two files mention
abbrev pub mentions : Domain → Problem → List Mention
mentions domain problem = in_domain domain ++ in_problem problem

-- the predicate is declared, with a variable for each argument
abbrev pub has_predicate : Domain → Mention → Bool
has_predicate domain mention = list_all (has_arity domain.predicates) (predicate_uses mention)

-- the function is declared, with a variable for each argument; `total-cost` may stand without a declaration, and has no arguments then
abbrev pub has_function : Domain → Mention → Bool
has_function domain mention = list_all (is_well_used domain) (function_uses mention)

-- the argument is a variable, or names an object
abbrev pub is_known : Domain → Problem → Term → Bool
is_known domain problem (Variable variable) = true
is_known domain problem (Object object) = list_any (λ known. is_same known.name.name object.name) (objects domain problem)

abbrev pub has_objects : Domain → Problem → Mention → Bool
has_objects domain problem mention = list_all (is_known domain problem) (arguments mention)

-- what is added or denied isn't derived
abbrev pub is_basic : Domain → Mention → Bool
is_basic domain mention = list_all (λ name. not (is_derived domain name.name)) (written_predicates mention)

-- ---- costs

-- there is no increase, or one that has the form that costs may have
abbrev pub is_one_cost : List Increase → Bool
is_one_cost [] = true
is_one_cost (increase ∷ []) = increase.is_formed
is_one_cost (increase ∷ other ∷ more) = false

-- ---- the initial state

-- the entry denies no atom that an entry states
abbrev pub denies_none : List Init → Init → Bool
denies_none init (Holds atom) = true
denies_none init (HoldsNot atom at) = not (list_any (is_stated (ground [] atom)) init)
denies_none init (Value term value at) = true

abbrev pub is_value : Option ℕ → ℕ → Bool
is_value None value = false
is_value (Some known) value = known == value

-- the value that the entry gives is the value of its term
abbrev pub gives_the_value : List Init → Init → Bool
gives_the_value init (Holds atom) = true
gives_the_value init (HoldsNot atom at) = true
gives_the_value init (Value term value at) = is_value (value_in init (ground [] term)) value

-- ---- sizes

-- the condition isn't cut into too many parts
abbrev pub has_few_parts : Cut → Bool
has_few_parts cut = nat_le cut.parts most_parts
