use Rattle.pass_possible.proofs.Pruned.{pruned_valid, pruned_keeps, pruned_solves, pruned_costs, pruned_once}
use Rattle.pass_possible.proofs.laws.pruning_keeps.Goals as goal

pub returns : goal.returns
returns c =
    record {
      valid = pruned_valid;
      stands = pruned_keeps;
      same_solutions = λ task new names cost valid is. pruned_solves task new valid is names cost;
      costs = pruned_costs;
      one = pruned_once;
    }
