-- The links between the names of a domain: of types to their supertypes, and of derived predicates to the predicates that they depend on; and where they lead back.
pub use Rattle.names.specs.Links.{Link, link, leads, is_on_cycle}
use Rattle.std.specs.Prelude.{List, [], map, if◌then◌else◌}
use Rattle.std.specs.List.{filter, flat_map}
use Rattle.pddl_lexer.specs.declared.position.At.{At}
use Rattle.pddl_syntax.specs.declared.types.Derived.{Derived}
use Rattle.pddl_syntax.specs.declared.types.Domain.{Domain}
use Rattle.pddl_syntax.specs.declared.types.Typed.{Typed}
use Rattle.pddl_syntax.specs.Words.{is_same}
use Rattle.pddl_syntax.specs.Objects.{root}
use Rattle.fault_positions.specs.Mentions.{in_condition, asked_predicates}

-- from a type to its supertypes; `object` has none
abbrev pub supertype_links : Typed → List Link
supertype_links entry = if is_same entry.name.name root then [] else map (λ parent. link entry.name.name parent.name) entry.types

abbrev pub type_links : List Typed → List Link
type_links types = flat_map supertype_links types

-- From the predicate of an axiom to those that its body asks for. Those that aren't derived lead on to none.
abbrev pub dependence_links : Derived → List Link
dependence_links rule = map (λ predicate. link rule.head.name.name predicate.name) (flat_map asked_predicates (in_condition rule.body))

abbrev pub axiom_links : List Derived → List Link
axiom_links axioms = flat_map dependence_links axioms

-- the positions of the types that are on a cycle of supertypes, at each of their declarations
abbrev pub type_cycles : Domain → List At
type_cycles domain = map (λ entry. entry.name.at) (filter (λ entry. is_on_cycle (type_links domain.types) entry.name.name) domain.types)

-- the positions of the axioms whose predicate depends on itself
abbrev pub recursive_axioms : Domain → List At
recursive_axioms domain = map (λ rule. rule.at) (filter (λ rule. is_on_cycle (axiom_links domain.axioms) rule.head.name.name) domain.axioms)
