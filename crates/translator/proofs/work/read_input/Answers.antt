use Rattle.std.proofs.Common.{[], inr}
use Rattle.lists.proofs.Members.{member_first}
use Rattle.translator.proofs.work.read_input.Goals as goal

pub returns-in-Ok-clause-asks : goal.returns-in-Ok-clause-asks
returns-in-Ok-clause-asks g c = inr (c.args.name.now, member_first c.args.name.now [], c.read_all.ensures.asked)

pub returns-in-Err-Failed-clause-asks : goal.returns-in-Err-Failed-clause-asks
returns-in-Err-Failed-clause-asks g c = inr (c.args.name.now, member_first c.args.name.now [], c.read_all.ensures.asked)

pub returns-in-Err-TooLong-clause-asks : goal.returns-in-Err-TooLong-clause-asks
returns-in-Err-TooLong-clause-asks g c = inr (c.args.name.now, member_first c.args.name.now [], c.read_all.ensures.asked)

pub returns-in-Err-NoMemory-clause-asks : goal.returns-in-Err-NoMemory-clause-asks
returns-in-Err-NoMemory-clause-asks g c = inr (c.args.name.now, member_first c.args.name.now [], c.read_all.ensures.asked)
