use Rattle.std.proofs.Common.{◌≡◌, ℕ, List, take}
use Rattle.std.specs.List.{list_any}
use Rattle.names.specs.Names.{is_same}
use Rattle.mutex_groups.specs.Found.{has_group}
use Rattle.mutex_groups.proofs.grouping.all_groups.Given as goal

abbrev pub invariant-loop-candidate : goal.invariant-loop-candidate
invariant-loop-candidate l =
    (group : List ℕ) → list_any (is_same group) l.groups ≡ list_any (has_group l.init l.facts group) (take l.candidate-index l.candidates)
