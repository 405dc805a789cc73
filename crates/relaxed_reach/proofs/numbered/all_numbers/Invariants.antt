use Rattle.std.proofs.Common.{◌≡◌, map, take, drop}
use Rattle.std.specs.Prelude.{filter}
use Rattle.std.specs.List.{list_all}
use Rattle.reached_task.specs.Reachable.{is_among, number_of}
use Rattle.relaxed_reach.proofs.numbered.all_numbers.Given as goal

abbrev pub invariant-loop-atom : goal.invariant-loop-atom
invariant-loop-atom l =
    (l.numbers.items ≡ map (number_of l.facts) (filter (is_among l.facts) (take l.atom-index l.atoms)))
    × (list_all (is_among l.facts) l.atoms ≡ list_all (is_among l.facts) (drop l.atom-index l.atoms))
