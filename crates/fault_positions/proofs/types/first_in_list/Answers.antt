use Rattle.std.proofs.Common.{rules, refl, not, ap, ◌∙◌}
use Rattle.std.specs.List.{list_any}
use Rattle.pddl_syntax.specs.declared.types.Named.{Named}
use Rattle.pddl_syntax.specs.declared.types.Typed.{Typed}
use Rattle.pddl_syntax.specs.Words.{is_same}
use Rattle.fault_positions.specs.Positions.{earliest, positions_where}
use Rattle.fault_positions.proofs.MentionPositions.{positions_where_join, of_pieces}
use Rattle.fault_positions.proofs.types.first_in_list.Goals as goal

pub returns : goal.returns
returns c =
    let test = λ (type : Named). not (list_any (is_same type.name) c.args.known.now) in
    c.first_of.ensures (λ (typed : Typed). positions_where test typed.types) (λ typed at called. search rules)
    ∙ ap earliest (of_pieces (positions_where test) refl (positions_where_join test) (λ (typed : Typed). typed.types) c.args.list.now)
