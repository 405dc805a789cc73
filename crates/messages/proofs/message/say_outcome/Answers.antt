use Rattle.std.proofs.Common.{arith, rules}
use Rattle.messages.specs.Pieces.{bytes_of}
use Rattle.messages.proofs.Lines.{unreadable_is, unwritable_is}
use Rattle.messages.proofs.message.say_outcome.Goals as goal

pub returns-in-Err-Usage : goal.returns-in-Err-Usage
unfolding bytes_of
returns-in-Err-Usage g c = search rules

pub returns-in-Err-NoMemory : goal.returns-in-Err-NoMemory
unfolding bytes_of
returns-in-Err-NoMemory g c = search rules

pub returns-in-Err-CannotRead : goal.returns-in-Err-CannotRead
returns-in-Err-CannotRead g c = record { ok = grind (arith, unreadable_is); err = grind (arith, unreadable_is); cause = search rules }

pub returns-in-Err-CannotWrite : goal.returns-in-Err-CannotWrite
returns-in-Err-CannotWrite g c = record { ok = grind (arith, unwritable_is); err = grind (arith, unwritable_is); cause = search rules }
