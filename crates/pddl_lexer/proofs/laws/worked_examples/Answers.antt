use Rattle.pddl_lexer.proofs.Examples.{tokens, faults}
use Rattle.pddl_lexer.proofs.laws.worked_examples.Goals as goal

pub returns : goal.returns
returns c = record { tokens = tokens; faults = faults }
