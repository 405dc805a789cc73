use Rattle.reached_task.proofs.OneLayers.{one_layers, small_layers}
use Rattle.reached_task.proofs.laws.one_list_of_layers.Goals as goal

pub returns-clause-one : goal.returns-clause-one
returns-clause-one c reached a b as' bs = one_layers reached a b as' bs

pub returns-clause-small : goal.returns-clause-small
returns-clause-small c reached layers are = small_layers reached layers are
