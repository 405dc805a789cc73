use Rattle.sas_restriction.proofs.Reordered.{reordered_valid, reordered_keeps, reordered_costs}
use Rattle.sas_restriction.proofs.laws.reordering_keeps.Goals as goal

pub returns : goal.returns
returns c = record { valid = reordered_valid; stands = reordered_keeps; costs = reordered_costs }
