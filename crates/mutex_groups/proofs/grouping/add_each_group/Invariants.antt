use Rattle.std.proofs.Common.{◌≡◌, ◌||◌, ℕ, List, take}
use Rattle.std.specs.List.{list_any}
use Rattle.names.specs.Names.{is_same}
use Rattle.reached_task.specs.declared.types.Fact.{Fact}
use Rattle.mutex_groups.specs.Found.{HoldsNumbers, HoldsWeights, gives}
use Rattle.mutex_groups.proofs.grouping.add_each_group.Given as goal

abbrev pub invariant-loop-atom : goal.invariant-loop-atom
invariant-loop-atom l =
    (facts : List Fact) → HoldsWeights l.candidate l.init l.weights → HoldsNumbers l.candidate facts l.members →
    (group : List ℕ) → list_any (is_same group) l.groups ≡ (list_any (gives l.candidate l.init facts group) (take l.atom-index l.init) || list_any (is_same group) l.initial.groups)
