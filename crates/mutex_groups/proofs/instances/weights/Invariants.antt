use Rattle.std.proofs.Common.{◌≡◌, ℕ, List, take}
use Rattle.mutex_groups.specs.Found.{weight_among, weight_in, told}
use Rattle.mutex_groups.proofs.instances.weights.Given as goal

abbrev pub invariant-loop-atom : goal.invariant-loop-atom
invariant-loop-atom l = (instance : List ℕ) → weight_in l.weights instance ≡ told (weight_among l.candidate (take l.atom-index l.atoms) instance)
