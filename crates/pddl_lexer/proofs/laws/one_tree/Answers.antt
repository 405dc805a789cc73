use Rattle.pddl_lexer.proofs.Unique.{one}
use Rattle.pddl_lexer.proofs.laws.one_tree.Goals as goal

pub returns : goal.returns
returns c = one
