use Rattle.std.proofs.Common.{rules, sym}
use Rattle.messages.proofs.Lines.{position_pieces}
use Rattle.messages.proofs.message.say_of_position.Goals as goal

pub returns-clause-ok : goal.returns-clause-ok
returns-clause-ok g c = rw (sym (position_pieces c.args.name.now c.args.at c.args.words.now)) (search rules)

pub returns-clause-err : goal.returns-clause-err
returns-clause-err g c = rw (sym (position_pieces c.args.name.now c.args.at c.args.words.now)) (search rules)
