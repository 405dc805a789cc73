use Rattle.std.proofs.Common.{◌≡◌, take}
use Rattle.pass_h2.specs.Search.{new_beside, with_chosen}
use Rattle.pass_h2.proofs.search.add_all_beside.Given as goal

abbrev pub invariant-loop-fact : goal.invariant-loop-fact
invariant-loop-fact l = l.table ≡ with_chosen (new_beside l.operator l.marks) l.initial.table (take l.fact-index l.facts)
