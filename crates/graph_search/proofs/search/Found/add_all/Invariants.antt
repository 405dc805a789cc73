use Rattle.std.proofs.Common.{◌≡◌, fold, take}
use Rattle.graph_search.specs.Search.{with_number}
use Rattle.graph_search.proofs.search.Found.add_all.Given as goal

abbrev pub invariant-loop-number : goal.invariant-loop-number
invariant-loop-number l = l.self ≡ fold with_number l.initial.self (take l.number-index l.numbers)
