use Rattle.std.proofs.Common.{rules, sym}
use Rattle.messages.specs.Pieces.{bytes_of}
use Rattle.messages.proofs.Lines.{named_pieces}
use Rattle.messages.proofs.message.say_named.Goals as goal

pub returns-clause-ok : goal.returns-clause-ok
returns-clause-ok g c = rw (sym (named_pieces (bytes_of c.args.phrase) c.args.name.now)) (search rules)

pub returns-clause-err : goal.returns-clause-err
returns-clause-err g c = rw (sym (named_pieces (bytes_of c.args.phrase) c.args.name.now)) (search rules)
