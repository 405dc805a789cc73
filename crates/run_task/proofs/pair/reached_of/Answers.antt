use Rattle.run_task.proofs.Translated.{reached_of_reachable}
use Rattle.run_task.proofs.pair.reached_of.Goals as goal

pub returns-clause-reached : goal.returns-clause-reached
returns-clause-reached c = reached_of_reachable c.args.normal.now c.in_ok-ground.ground c.reached.result c.in_ok-ground.ensures.part c.same_reached_effects.ensures c.reached.ensures.reached
