use Rattle.std.proofs.Common.{◌≡◌}
use Rattle.pddl_lexer.specs.Members.{count}
use Rattle.pddl_syntax.specs.Shapes.{check_typed}
use Rattle.pddl_syntax.proofs.checks.check_typed.Given as goal

abbrev pub invariant-loop-cursor : goal.invariant-loop-cursor
invariant-loop-cursor l = check_typed l.item l.place l.at l.cursor ≡ check_typed l.item l.place l.at l.members

abbrev pub decreases-loop-cursor : goal.decreases-loop-cursor
decreases-loop-cursor l = count l.cursor
