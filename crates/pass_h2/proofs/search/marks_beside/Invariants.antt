use Rattle.std.proofs.Common.{◌≡◌, take}
use Rattle.pass_h2.specs.Search.{beside}
use Rattle.pass_h2.proofs.search.marks_beside.Given as goal

abbrev pub invariant-loop-condition : goal.invariant-loop-condition
invariant-loop-condition l = l.marks ≡ beside l.table (take l.condition-index l.conditions)
