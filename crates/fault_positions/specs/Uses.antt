-- The positions of some uses of predicates or functions.
use Rattle.std.specs.Prelude.{not, ◌&&◌, ◌==◌, List, [], ◌∷◌, map, Option, Some, None}
use Rattle.std.specs.List.{filter}
use Rattle.pddl_lexer.specs.declared.position.At.{At}
use Rattle.pddl_syntax.specs.declared.types.Domain.{Domain}
use Rattle.pddl_syntax.specs.Words.{is_same}
use Rattle.fault_positions.specs.declared.uses.Usage.{Usage}
use Rattle.fault_positions.specs.Increases.{total_cost}
use Rattle.fault_positions.specs.Positions.{positions_where}
use Rattle.fault_positions.specs.Mentions.{Use}
use Rattle.fault_positions.specs.Names.{is_declared, is_function, has_arity, is_well_used, use_positions}

-- what the code's use says
abbrev pub shown : Usage → Use
shown usage = record { name = usage.name.now; arity = usage.arity }

abbrev pub listed : Option Usage → List Use
listed None = []
listed (Some usage) = shown usage ∷ []

-- ---- names without a declaration

abbrev pub undeclared_predicates : Domain → List Use → List At
undeclared_predicates domain uses = positions_where (λ name. not (is_declared domain.predicates name.name)) (map (λ usage. usage.name) uses)

abbrev pub undeclared_functions : Domain → List Use → List At
undeclared_functions domain uses = positions_where (λ name. not (is_function domain name.name)) (map (λ usage. usage.name) uses)

-- ---- other numbers of arguments

abbrev pub wrong_predicates : Domain → List Use → List At
wrong_predicates domain uses = use_positions (filter (λ usage. not (has_arity domain.predicates usage)) uses)

abbrev pub wrong_functions : Domain → List Use → List At
wrong_functions domain uses = use_positions (filter (λ usage. not (is_well_used domain usage)) uses)

-- `total-cost` with arguments
abbrev pub overfull_totals : List Use → List At
overfull_totals uses = use_positions (filter (λ usage. is_same usage.name.name total_cost && not (usage.arity == 0)) uses)
