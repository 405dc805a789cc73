use Rattle.std.proofs.Common.{map, ap, ◌∙◌}
use Rattle.std.specs.List.{filter}
use Rattle.pddl_syntax.specs.declared.types.Derived.{Derived}
use Rattle.names.specs.Links.{is_on_cycle}
use Rattle.fault_positions.specs.Positions.{earliest}
use Rattle.fault_positions.specs.Links.{axiom_links}
use Rattle.fault_positions.proofs.recursion.first_recursive_axiom.Goals as goal

pub returns : goal.returns
returns c =
    let cycles = c.in_ok-cycles.ensures {u = tt} in
    let axioms = c.as_slice-axioms.ensures in
    let links = c.in_ok-links.ensures {u = tt} ∙ ap axiom_links axioms in
    c.first_derived-first.ensures
    ∙ (λ i. earliest (map (λ (rule : Derived). rule.at) (filter (λ (rule : Derived). (cycles rule.head.name.name ∙ ap (λ links. is_on_cycle links rule.head.name.name) links) i) (axioms i))))
