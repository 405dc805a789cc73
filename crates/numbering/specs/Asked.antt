-- The types of the variables of two files, one after another.
use Rattle.std.specs.Prelude.{List, ◌++◌, map}
use Rattle.std.specs.List.{flat_map}
use Rattle.pddl_syntax.specs.declared.types.Domain.{Domain}
use Rattle.pddl_syntax.specs.declared.types.Named.{Named}
use Rattle.pddl_syntax.specs.declared.types.Problem.{Problem}
use Rattle.fault_positions.specs.Mentions.{Mention, listed_variables, in_action, in_axiom, in_problem}

-- the types of each variable of the list, where one is mentioned
abbrev pub types_at : Mention → List (List Named)
types_at mention = map (λ variable. variable.types) (listed_variables mention)

-- the types of each variable that is mentioned
abbrev pub types_of : List Mention → List (List Named)
types_of mentions = flat_map types_at mentions

-- the types of each variable of actions, axioms and the goal
abbrev pub variable_types : Domain → Problem → List (List Named)
variable_types domain problem = types_of (flat_map in_action domain.actions ++ flat_map in_axiom domain.axioms) ++ types_of (in_problem problem)
