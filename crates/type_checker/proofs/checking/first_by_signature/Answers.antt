use Rattle.std.proofs.Common.{ap, ◌∙◌}
use Rattle.type_checker.specs.Rows.{first_in_table}
use Rattle.type_checker.proofs.RowHeads.{first_fault}
use Rattle.type_checker.proofs.checking.first_by_signature.Goals as goal

pub returns : goal.returns
returns c = c.first_in_table.ensures ∙ ap first_in_table (c.in_ok-table.ensures {u = tt}) ∙ first_fault c.args.domain.now c.args.problem.now
