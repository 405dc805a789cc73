use Rattle.std.proofs.Common.{◌++◌, length, sym, ap, ◌∙◌}
use Rattle.lists.proofs.LoopSteps.{flat_map_range_next}
use Rattle.pass_h2.specs.Facts.{facts_at, facts_below}
use Rattle.pass_h2.proofs.Ranges.{one_more}
use Rattle.pass_h2.proofs.facts.list_facts.Goals as goal

pub loop-var-preserved : goal.loop-var-preserved
loop-var-preserved c = (
  (c.in_ok-add_facts_of.ensures ∙ ap (λ l. l ++ facts_at c.args.task.now c.loop-var.var) c.loop-var.invariant.0 ∙ sym (flat_map_range_next (facts_at c.args.task.now) c.loop-var.var)),
  one_more (λ var. length (facts_below c.args.task.now var)) c.loop-var.starts.items c.push.new.self.items c.len.result c.loop-var.var c.loop-var.invariant.1 c.in_ok-push.ensures.items (c.len.ensures ∙ c.loop-var.facts.ok.0 ∙ ap length c.loop-var.invariant.0),
)
