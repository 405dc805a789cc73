use Rattle.pddl_lexer.specs.Members.{count}
use Rattle.pddl_syntax.proofs.values.member_count.Given as goal

abbrev pub decreases-loop-cursor : goal.decreases-loop-cursor
decreases-loop-cursor l = count l.cursor
