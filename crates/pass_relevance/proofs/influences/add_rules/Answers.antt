use Rattle.std.proofs.Common.{List, ◌++◌, ap, ◌∙◌}
use Rattle.lists.proofs.LoopSteps.{flat_map_turn}
use Rattle.sas_task.specs.declared.parts.Pair.{Pair}
use Rattle.pass_relevance.specs.Influences.{arcs_to, arcs_of_rule}
use Rattle.pass_relevance.proofs.influences.add_rules.Goals as goal

pub loop-rule-preserved : goal.loop-rule-preserved
loop-rule-preserved c =
    flat_map_turn c.args.rules.now c.loop-rule.rule-index c.rule-item.result c.loop-rule-test.true c.rule-item.is
    arcs_of_rule c.args.arcs.now.items c.loop-rule.arcs.items c.add_pairs.new.arcs.items c.loop-rule.invariant
    (c.in_ok-add_pairs.ensures ∙ ap (λ (pairs : List Pair). c.loop-rule.arcs.items ++ arcs_to c.rule-item.result.var pairs) c.as_slice.ensures)
