use Rattle.run_task.proofs.Ranges.{next_sum, next_bound}
use Rattle.run_task.proofs.sizes.facts.Goals as goal

pub loop-i-preserved : goal.loop-i-preserved
loop-i-preserved c = record {
  sum = next_sum c.args.task.now.variables c.loop-i.i c.loop-i.facts c.range.result c.variable.result.now c.variable.ensures c.range.ensures c.loop-i.invariant.sum;
  bounded = next_bound c.loop-i.facts c.range.result c.loop-i.i c.loop-i.invariant.bounded c.range.type_inv;
}
