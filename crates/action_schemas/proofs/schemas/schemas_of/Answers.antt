use Rattle.std.proofs.Common.{ℕ, ◌+◌, map, take, ap, ◌∙◌}
use Rattle.lists.proofs.LoopSteps.{map_next}
use Rattle.normal_task.specs.Normalised as spec
use Rattle.normal_rows.proofs.TurnSteps.{turn-more}
use Rattle.action_schemas.proofs.schemas.schemas_of.Goals as goal

pub loop-action-preserved : goal.loop-action-preserved
loop-action-preserved c =
    let made = spec.schemas c.args.numbering.now.domain c.args.numbering.now.problem in
    turn-more (map made (take c.loop-action.action-index c.args.actions.now)) (map made (take (c.loop-action.action-index + 1) c.args.actions.now)) (made c.action-item.result)
    (map_next c.args.actions.now c.loop-action.action-index c.action-item.result c.loop-action-test.true c.action-item.is made)
    c.args.next c.loop-action.made.items c.loop-action.made.fresh c.loop-action.invariant
    c.in_ok-start.start (c.in_ok-start.ensures ∙ ap (λ (n : ℕ). c.args.next + n) c.len.ensures) c.in_ok-more.more.items c.in_ok-more.more.fresh c.in_ok-more.ensures
    c.in_ok-made.made.items c.in_ok-made.made.fresh c.in_ok-made.ensures.0 c.in_ok-made.ensures.1
