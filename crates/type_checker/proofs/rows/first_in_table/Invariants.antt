use Rattle.std.proofs.Common.{◌≡◌, drop}
use Rattle.type_checker.specs.Rows.{first_in_table}
use Rattle.type_checker.proofs.rows.first_in_table.Given as goal

abbrev pub invariant-loop-row : goal.invariant-loop-row
invariant-loop-row l = first_in_table (drop l.row-index l.table) ≡ first_in_table l.table
