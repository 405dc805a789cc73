use Rattle.std.proofs.Common.{◌++◌, not, ◌∙◌}
use Rattle.std.specs.List.{flat_map}
use Rattle.pddl_syntax.specs.declared.types.Named.{Named}
use Rattle.fault_positions.specs.Positions.{positions_where, earliest}
use Rattle.fault_positions.specs.Mentions.{Mention, listed_variables}
use Rattle.fault_positions.specs.Names.{types_of}
use Rattle.fault_positions.proofs.types.first_unknown_types.Goals as goal

pub returns : goal.returns
returns c =
    let known = c.in_ok-known.ensures in
    let types_in = λ (mention : Mention). types_of (listed_variables mention) in
    let in_domain =
    c.first_unknown_type.ensures ∙ (λ i. earliest (positions_where (λ (type : Named). not (known type.name i)) (types_of (c.as_slice-constants.ensures i) ++ flat_map types_in (c.requires.in_domain i)))) in
    let in_problem =
    c.first_unknown_type-2.ensures ∙ (λ i. earliest (positions_where (λ (type : Named). not (known type.name i)) (types_of (c.as_slice-objects.ensures i) ++ flat_map types_in (c.requires.in_problem i)))) in
    λ i. (in_domain i, in_problem i)
