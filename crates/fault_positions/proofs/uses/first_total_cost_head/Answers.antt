use Rattle.std.proofs.Common.{rules, refl, List, ◌∷◌, [], ap, ◌∙◌}
use Rattle.std.specs.List.{flat_map}
use Rattle.pddl_syntax.specs.declared.types.Head.{Head}
use Rattle.fault_positions.specs.Positions.{earliest}
use Rattle.fault_positions.specs.Mentions.{head_use}
use Rattle.fault_positions.specs.Uses.{overfull_totals}
use Rattle.fault_positions.proofs.MentionPositions.{of_items}
use Rattle.fault_positions.proofs.UsePositions.{overfull_totals_join}
use Rattle.fault_positions.proofs.uses.first_total_cost_head.Goals as goal

pub returns : goal.returns
returns c =
    c.first_of.ensures (λ (head : Head). overfull_totals (head_use head ∷ [])) (λ head at called. search rules)
    ∙ ap (λ (heads : List Head). earliest (flat_map (λ (head : Head). overfull_totals (head_use head ∷ [])) heads)) c.as_slice.ensures
    ∙ ap earliest (of_items overfull_totals refl overfull_totals_join head_use c.args.domain.now.functions)
