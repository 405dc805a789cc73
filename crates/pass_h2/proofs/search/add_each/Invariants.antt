use Rattle.std.proofs.Common.{◌≡◌, take}
use Rattle.pass_h2.specs.Search.{with_each}
use Rattle.pass_h2.proofs.search.add_each.Given as goal

abbrev pub invariant-loop-other : goal.invariant-loop-other
invariant-loop-other l = l.table ≡ with_each l.fact l.initial.table (take l.other-index l.others)
