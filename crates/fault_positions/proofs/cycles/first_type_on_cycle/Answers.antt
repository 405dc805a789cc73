use Rattle.std.proofs.Common.{map, ap, ◌∙◌}
use Rattle.std.specs.List.{filter}
use Rattle.pddl_syntax.specs.declared.types.Typed.{Typed}
use Rattle.names.specs.Links.{is_on_cycle}
use Rattle.fault_positions.specs.Positions.{earliest}
use Rattle.fault_positions.specs.Links.{type_links}
use Rattle.fault_positions.proofs.cycles.first_type_on_cycle.Goals as goal

pub returns : goal.returns
returns c =
    let cycles = c.in_ok-cycles.ensures {u = tt} in
    let types = c.as_slice-types.ensures in
    let links = c.in_ok-links.ensures {u = tt} ∙ ap type_links types in
    c.first_declared-first.ensures
    ∙ (λ i. earliest (map (λ (entry : Typed). entry.name.at) (filter (λ (entry : Typed). (cycles entry.name.name ∙ ap (λ links. is_on_cycle links entry.name.name) links) i) (types i))))
