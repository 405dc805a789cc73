use Rattle.pass_possible.proofs.Reached.{pair_reached, one_value}
use Rattle.pass_possible.proofs.Pruned.{one_set}
use Rattle.pass_possible.proofs.laws.possible_pairs.Goals as goal

pub returns : goal.returns
returns c = record { reached = pair_reached; one_value = one_value; one = one_set }
