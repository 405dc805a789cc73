use Rattle.std.proofs.Common.{refl}
use Rattle.pass_possible.proofs.laws.pruned_example.Goals as goal

pub returns : goal.returns
returns c = record { plain = refl; pruned = refl }
