use Rattle.pass_book.proofs.Chains.{meets_valid, meets_keeps, chain_valid, chain_keeps, chain_costs, chain_once}
use Rattle.pass_book.proofs.laws.passes_keep.Goals as goal

pub returns : goal.returns
returns c = record { one_valid = meets_valid; one_stands = meets_keeps; valid = chain_valid; stands = chain_keeps; costs = chain_costs; one = chain_once }
