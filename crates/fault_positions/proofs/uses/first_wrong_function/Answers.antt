use Rattle.std.proofs.Common.{rules, refl, ap, ◌∙◌}
use Rattle.fault_positions.specs.declared.mentions.Mention.{Mention}
use Rattle.fault_positions.specs.Positions.{earliest}
use Rattle.fault_positions.specs.Mentions.{function_uses}
use Rattle.fault_positions.specs.Seen.{seen}
use Rattle.fault_positions.specs.Uses.{wrong_functions}
use Rattle.fault_positions.proofs.MentionPositions.{of_mentions}
use Rattle.fault_positions.proofs.UsePositions.{wrong_functions_join}
use Rattle.fault_positions.proofs.uses.first_wrong_function.Goals as goal

pub returns : goal.returns
returns c =
    let positions = wrong_functions c.args.signature.now in
    c.first_of.ensures (λ (mention : Mention). positions (function_uses (seen mention))) (λ mention at called. search rules)
    ∙ ap earliest (of_mentions positions refl (wrong_functions_join c.args.signature.now) function_uses c.args.mentions.now)
