use Rattle.names.proofs.Chains.{any_chain}
use Rattle.names.proofs.laws.chains.Goals as goal

pub returns : goal.returns
returns c = any_chain
