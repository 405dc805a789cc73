use Rattle.std.proofs.Common.{◌≡◌, true, take}
use Rattle.std.specs.List.{list_all}
use Rattle.reachable_instances.specs.Found.{is_found}
use Rattle.reachable_instances.proofs.trimmed.can_take_place.Given as goal

abbrev pub invariant-loop-atom : goal.invariant-loop-atom
invariant-loop-atom l = list_all (is_found l.tables l.facts) (take l.atom-index l.atom-items) ≡ true
