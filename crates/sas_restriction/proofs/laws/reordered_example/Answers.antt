use Rattle.std.proofs.Common.{refl}
use Rattle.sas_restriction.proofs.laws.reordered_example.Goals as goal

pub returns : goal.returns
returns c = record { counts = refl; order = refl; reordered = refl }
