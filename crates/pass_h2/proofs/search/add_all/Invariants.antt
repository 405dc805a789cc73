use Rattle.std.proofs.Common.{◌≡◌, take}
use Rattle.pass_h2.specs.Search.{with_all}
use Rattle.pass_h2.proofs.search.add_all.Given as goal

abbrev pub invariant-loop-fact : goal.invariant-loop-fact
invariant-loop-fact l = l.table ≡ with_all l.others l.initial.table (take l.fact-index l.facts)
