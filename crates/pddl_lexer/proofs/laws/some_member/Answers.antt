use Rattle.pddl_lexer.proofs.Places.{some_member}
use Rattle.pddl_lexer.proofs.laws.some_member.Goals as goal

pub returns : goal.returns
returns c = some_member
