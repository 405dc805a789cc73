use Rattle.std.proofs.Common.{◌∙◌}
use Rattle.fault_positions.specs.Positions.{earliest}
use Rattle.fault_positions.specs.Mentions.{in_domain}
use Rattle.fault_positions.specs.Names.{wrong_uses, total_cost_heads}
use Rattle.fault_positions.proofs.Joined.{earliest_of_both}
use Rattle.type_checker.proofs.arities.first_wrong_arities.Goals as goal

pub returns : goal.returns
returns c =
    let domain = c.args.files.now.domain.now in
    let in_domain =
    c.earlier.ensures
    ∙ earliest_of_both (total_cost_heads domain) (wrong_uses domain (in_domain domain)) _ _ c.first_total_cost_head.ensures
    (c.first_wrong_use-in_uses.ensures ∙ (λ i. earliest (wrong_uses (c.requires.signature i) (c.requires.in_domain i)))) in
    let in_problem = c.first_wrong_use.ensures ∙ (λ i. earliest (wrong_uses (c.requires.signature i) (c.requires.in_problem i))) in
    λ i. (in_domain i, in_problem i)
