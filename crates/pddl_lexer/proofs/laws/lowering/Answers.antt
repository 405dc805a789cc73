use Rattle.pddl_lexer.proofs.Lowered.{written-lowered, lowered_twice, members_once}
use Rattle.pddl_lexer.proofs.laws.lowering.Goals as goal

pub returns : goal.returns
returns c = record { tokens = written-lowered; words = lowered_twice; members = members_once }
