use Rattle.pddl_syntax.proofs.TypeChains.{any_chain}
use Rattle.pddl_syntax.proofs.laws.type_chains.Goals as goal

pub returns : goal.returns
returns c = any_chain
