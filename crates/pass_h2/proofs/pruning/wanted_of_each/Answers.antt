use Rattle.std.proofs.Common.{filter}
use Rattle.sas_restriction.specs.Everything.{all_values}
use Rattle.pass_possible.specs.Pruned.{is_wanted}
use Rattle.pass_h2.specs.Finds.{found}
use Rattle.pass_h2.proofs.Ranges.{one_more}
use Rattle.pass_h2.proofs.pruning.wanted_of_each.Goals as goal

pub loop-var-preserved : goal.loop-var-preserved
loop-var-preserved c =
    one_more (λ var. filter (is_wanted (found c.args.table.now) c.args.task.now var) (all_values c.args.task.now var)) c.loop-var.values.items c.push.new.self.items c.in_ok-list.list c.loop-var.var c.loop-var.invariant c.in_ok-push.ensures.items c.in_ok-list.ensures
