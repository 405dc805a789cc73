use Rattle.std.proofs.Common.{refl}
use Rattle.sas_restriction.proofs.laws.reduced_example.Goals as goal

pub returns : goal.returns
returns c = refl
