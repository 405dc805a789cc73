use Rattle.std.proofs.Common.{rules, refl, ap, ◌∙◌}
use Rattle.pddl_syntax.specs.declared.types.Named.{Named}
use Rattle.pddl_syntax.specs.Holds.{is_derived}
use Rattle.fault_positions.specs.declared.mentions.Mention.{Mention}
use Rattle.fault_positions.specs.Positions.{earliest, positions_where}
use Rattle.fault_positions.specs.Mentions.{written_predicates}
use Rattle.fault_positions.specs.Seen.{seen}
use Rattle.fault_positions.proofs.MentionPositions.{positions_where_join, of_mentions}
use Rattle.fault_positions.proofs.arguments.first_written.Goals as goal

pub returns : goal.returns
returns c =
    let positions = positions_where (λ (name : Named). is_derived c.args.derived.now name.name) in
    c.first_of.ensures (λ (mention : Mention). positions (written_predicates (seen mention))) (λ mention at called. search rules)
    ∙ ap earliest (of_mentions positions refl (positions_where_join (λ (name : Named). is_derived c.args.derived.now name.name)) written_predicates c.args.mentions.now)
