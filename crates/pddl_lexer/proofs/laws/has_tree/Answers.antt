use Rattle.pddl_lexer.proofs.Reading.{spells, tree_of_faultless}
use Rattle.pddl_lexer.proofs.laws.has_tree.Goals as goal

pub returns : goal.returns
returns c = record { spells = spells; tree = tree_of_faultless }
