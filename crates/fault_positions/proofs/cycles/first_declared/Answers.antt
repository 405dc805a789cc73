use Rattle.std.proofs.Common.{rules, [], ◌∷◌, ap, ◌∙◌}
use Rattle.std.specs.List.{list_any}
use Rattle.pddl_syntax.specs.declared.types.Typed.{Typed}
use Rattle.pddl_syntax.specs.Words.{is_same}
use Rattle.fault_positions.specs.Positions.{earliest}
use Rattle.fault_positions.proofs.MentionPositions.{first_where, where_each, where_passes}
use Rattle.fault_positions.proofs.cycles.first_declared.Goals as goal

pub returns : goal.returns
returns c =
    let test = λ (entry : Typed). list_any (is_same entry.name.name) c.args.names.now in
    let at_of = λ (entry : Typed). entry.name.at in
    c.first_of.ensures (λ (entry : Typed). where_passes test at_of (entry ∷ [])) (λ entry at called. let one = first_where test at_of entry in search (rules, one))
    ∙ ap earliest (where_each test at_of c.args.types.now)
