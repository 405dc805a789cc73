use Rattle.std.proofs.Common.{◌≡◌}
use Rattle.pddl_lexer.specs.Members.{count}
use Rattle.pddl_syntax.specs.Shapes.{check_all}
use Rattle.pddl_syntax.proofs.checks.check_all.Given as goal

abbrev pub invariant-loop-cursor : goal.invariant-loop-cursor
invariant-loop-cursor l = check_all l.expected l.cursor ≡ check_all l.expected l.members

abbrev pub decreases-loop-cursor : goal.decreases-loop-cursor
decreases-loop-cursor l = count l.cursor
