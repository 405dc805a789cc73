use Rattle.std.proofs.Common.{ℕ, ◌+◌, map, take, ap, ◌∙◌}
use Rattle.lists.proofs.LoopSteps.{map_next}
use Rattle.normal_task.specs.Normalised as spec
use Rattle.normal_rows.proofs.TurnSteps.{turn-more}
use Rattle.normaliser.proofs.axioms.axioms_of.Goals as goal

pub loop-rule-preserved : goal.loop-rule-preserved
loop-rule-preserved c =
    let made = spec.axiom_rows c.args.numbering.now.domain c.args.numbering.now.problem in
    turn-more (map made (take c.loop-rule.rule-index c.args.rules.now)) (map made (take (c.loop-rule.rule-index + 1) c.args.rules.now)) (made c.rule-item.result)
    (map_next c.args.rules.now c.loop-rule.rule-index c.rule-item.result c.loop-rule-test.true c.rule-item.is made)
    c.args.next c.loop-rule.made.items c.loop-rule.made.fresh c.loop-rule.invariant
    c.in_ok-start.start (c.in_ok-start.ensures ∙ ap (λ (n : ℕ). c.args.next + n) c.len.ensures) c.in_ok-more.more.items c.in_ok-more.more.fresh c.in_ok-more.ensures
    c.in_ok-made.made.items c.in_ok-made.made.fresh c.in_ok-made.ensures.0 c.in_ok-made.ensures.1
