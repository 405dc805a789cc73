use Rattle.std.proofs.Common.{◌≡◌, false, replicate}
use Rattle.pass_h2.proofs.table.open_rows.Given as goal

abbrev pub invariant-loop : goal.invariant-loop
invariant-loop l = l.rows.items ≡ replicate l.counter (replicate l.count false)
