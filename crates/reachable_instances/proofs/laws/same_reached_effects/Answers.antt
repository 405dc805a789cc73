use Rattle.reachable_instances.proofs.SameReached.{reached_of_effects}
use Rattle.reachable_instances.proofs.laws.same_reached_effects.Goals as goal

pub returns : goal.returns
returns c = reached_of_effects
