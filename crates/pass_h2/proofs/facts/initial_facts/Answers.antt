use Rattle.std.proofs.Common.{get_or, ap}
use Rattle.sas_task.specs.Pairs.{pair}
use Rattle.pass_h2.proofs.Ranges.{one_more}
use Rattle.pass_h2.proofs.facts.initial_facts.Goals as goal

pub loop-var-preserved : goal.loop-var-preserved
loop-var-preserved c =
    one_more (λ var. pair var (get_or c.args.task.now.state var 0)) c.loop-var.facts.items c.push.new.self.items (pair c.loop-var.var c.state.result) c.loop-var.var c.loop-var.invariant c.in_ok-push.ensures.items
    (ap (pair c.loop-var.var) c.state.ensures)
