use Rattle.std.proofs.Common.{rules, sym}
use Rattle.command_line.proofs.Numbers.{too_large}
use Rattle.command_line.proofs.accepted.number_within.Goals as goal

pub returns-in-Err : goal.returns-in-Err
returns-in-Err c = sym (too_large c.args.least c.args.most c.args.text.now c.in-Err.field-0 c.in-Err.ensures.value.0 (search rules) (search rules))
