use Rattle.std.proofs.Common.{sym, ap, ◌∙◌}
use Rattle.fault_positions.specs.Positions.{earlier, earliest}
use Rattle.fault_positions.specs.Sizes.{cuts, effect_cuts, too_large}
use Rattle.fault_positions.proofs.Capping.{first_append}
use Rattle.fault_positions.proofs.sizes.first_in_action.Goals as goal

pub returns : goal.returns
returns c =
    c.earlier.ensures
    ∙ ap (λ first. earlier first c.first_in_effect.result) c.first_in_condition.ensures
    ∙ ap (earlier (earliest (too_large (cuts c.args.action.now.precondition)))) c.first_in_effect.ensures
    ∙ sym (first_append (cuts c.args.action.now.precondition) (effect_cuts c.args.action.now.effect 1))
