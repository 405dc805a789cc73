use Rattle.std.proofs.Common.{rules, sym}
use Rattle.messages.proofs.Lines.{summary_pieces}
use Rattle.messages.proofs.message.say_summary.Goals as goal

pub returns-clause-ok : goal.returns-clause-ok
returns-clause-ok g c = rw (sym (summary_pieces c.args.summary.now)) (search rules)

pub returns-clause-err : goal.returns-clause-err
returns-clause-err g c = rw (sym (summary_pieces c.args.summary.now)) (search rules)
