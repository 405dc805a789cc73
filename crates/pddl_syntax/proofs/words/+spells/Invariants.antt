use Rattle.std.proofs.Common.{length}
use Rattle.pddl_syntax.proofs.words.+spells.Given as goal

abbrev pub decreases-spells : goal.decreases-spells
decreases-spells l = length l.word.now
