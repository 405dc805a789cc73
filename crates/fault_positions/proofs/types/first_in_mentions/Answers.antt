use Rattle.std.proofs.Common.{rules, refl, not, ap, ◌∙◌}
use Rattle.std.specs.List.{list_any}
use Rattle.pddl_syntax.specs.declared.types.Named.{Named}
use Rattle.pddl_syntax.specs.Words.{is_same}
use Rattle.fault_positions.specs.declared.mentions.Mention.{Mention}
use Rattle.fault_positions.specs.Positions.{earliest, positions_where}
use Rattle.fault_positions.specs.Mentions.{listed_variables}
use Rattle.fault_positions.specs.Names.{types_of}
use Rattle.fault_positions.specs.Seen.{seen}
use Rattle.fault_positions.proofs.MentionPositions.{positions_where_join, of_pieces}
use Rattle.fault_positions.proofs.types.first_in_mentions.Goals as goal

pub returns : goal.returns
returns c =
    let test = λ (type : Named). not (list_any (is_same type.name) c.args.known.now) in
    let types_in = λ (mention : Mention). types_of (listed_variables (seen mention)) in
    c.first_of.ensures (λ (mention : Mention). positions_where test (types_in mention)) (λ mention at called. search rules)
    ∙ ap earliest (of_pieces (positions_where test) refl (positions_where_join test) types_in c.args.mentions.now)
