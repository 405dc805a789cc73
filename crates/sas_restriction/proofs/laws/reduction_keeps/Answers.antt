use Rattle.sas_restriction.proofs.Reduced.{reduced_valid, reduced_keeps, reduced_solves, part_of_reduced, reduced_costs, reduced_once}
use Rattle.sas_restriction.proofs.laws.reduction_keeps.Goals as goal

pub returns : goal.returns
returns c = record { valid = reduced_valid; stands = reduced_keeps; relevant_steps = reduced_solves; reduced_steps = part_of_reduced; costs = reduced_costs; one = reduced_once }
