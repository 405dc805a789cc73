use Rattle.std.proofs.lemmas.Result.{on_ok_weaker}
use Rattle.mutex_groups.proofs.grouping.add_groups.Goals as goal

pub returns : goal.returns
returns c = on_ok_weaker c.add_each_group.result (λ adds. adds c.args.facts.now c.in_ok-weights.ensures c.in_ok-members.ensures) c.add_each_group.ensures
