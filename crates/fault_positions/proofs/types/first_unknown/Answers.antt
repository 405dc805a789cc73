use Rattle.std.proofs.Common.{rules, not, [], ◌∷◌, ap, ◌∙◌}
use Rattle.std.specs.List.{list_any}
use Rattle.pddl_syntax.specs.declared.types.Named.{Named}
use Rattle.pddl_syntax.specs.Words.{is_same}
use Rattle.fault_positions.specs.Positions.{earliest}
use Rattle.fault_positions.proofs.MentionPositions.{first_where, where_each, where_passes}
use Rattle.fault_positions.proofs.types.first_unknown.Goals as goal

pub returns : goal.returns
returns c =
    let test = λ (type : Named). not (list_any (is_same type.name) c.args.known.now) in
    let at_of = λ (type : Named). type.at in
    c.first_of.ensures (λ (type : Named). where_passes test at_of (type ∷ [])) (λ type at called. let one = first_where test at_of type in search (rules, one))
    ∙ ap earliest (where_each test at_of c.args.types.now)
