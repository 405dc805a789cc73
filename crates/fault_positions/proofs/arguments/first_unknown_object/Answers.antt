use Rattle.std.proofs.Common.{rules, refl, ap, ◌∙◌}
use Rattle.std.specs.List.{flat_map}
use Rattle.std.proofs.lemmas.Grind.{flat_map-append}
use Rattle.fault_positions.specs.declared.mentions.Mention.{Mention}
use Rattle.fault_positions.specs.Positions.{earliest}
use Rattle.fault_positions.specs.Mentions.{arguments}
use Rattle.fault_positions.specs.Names.{unknown_object}
use Rattle.fault_positions.specs.Seen.{seen}
use Rattle.fault_positions.proofs.MentionPositions.{of_mentions}
use Rattle.fault_positions.proofs.arguments.first_unknown_object.Goals as goal

pub returns : goal.returns
returns c =
    let own = unknown_object c.args.objects.now.0 c.args.objects.now.1 in
    c.first_of.ensures (λ (mention : Mention). flat_map own (arguments (seen mention))) (λ mention at called. search rules)
    ∙ ap earliest (of_mentions (flat_map own) refl (flat_map-append own) arguments c.args.mentions.now)
