use Rattle.sas_task.specs.Pairs.{pair}
use Rattle.pass_h2.proofs.Ranges.{one_more_behind}
use Rattle.pass_h2.proofs.facts.add_facts.Goals as goal

pub loop-val-preserved : goal.loop-val-preserved
loop-val-preserved c = one_more_behind (pair c.args.var) c.args.facts.now.items c.loop-val.facts.items c.push.new.self.items c.loop-val.val c.loop-val.invariant c.in_ok-push.ensures.items
