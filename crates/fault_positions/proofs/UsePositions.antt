-- The positions of uses are given use by use.
use Rattle.std.proofs.Common.{not, ◌&&◌, nat_eq}
use Rattle.pddl_syntax.specs.declared.types.Domain.{Domain}
use Rattle.pddl_syntax.specs.Words.{is_same}
use Rattle.fault_positions.specs.Increases.{total_cost}
use Rattle.fault_positions.specs.Names.{is_declared, is_function, has_arity, is_well_used}
use Rattle.fault_positions.specs.Uses.{undeclared_predicates, wrong_predicates, undeclared_functions, wrong_functions, overfull_totals}
use Rattle.fault_positions.proofs.MentionPositions.{Joins, filtered_join, names_join}

pub undeclared_predicates_join : (domain : Domain) → Joins (undeclared_predicates domain)
undeclared_predicates_join domain = names_join (λ name. not (is_declared domain.predicates name.name))

pub undeclared_functions_join : (domain : Domain) → Joins (undeclared_functions domain)
undeclared_functions_join domain = names_join (λ name. not (is_function domain name.name))

pub wrong_predicates_join : (domain : Domain) → Joins (wrong_predicates domain)
wrong_predicates_join domain = filtered_join (λ usage. not (has_arity domain.predicates usage)) (λ usage. usage.name.at)

pub wrong_functions_join : (domain : Domain) → Joins (wrong_functions domain)
wrong_functions_join domain = filtered_join (λ usage. not (is_well_used domain usage)) (λ usage. usage.name.at)

pub overfull_totals_join : Joins overfull_totals
overfull_totals_join = filtered_join (λ usage. is_same usage.name.name total_cost && not (nat_eq usage.arity 0)) (λ usage. usage.name.at)
