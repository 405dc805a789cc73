use Rattle.std.proofs.Common.{◌≡◌}
use Rattle.pddl_lexer.specs.Members.{count}
use Rattle.pddl_syntax.specs.Values.{group_end}
use Rattle.pddl_syntax.proofs.values.group_end.Given as goal

abbrev pub invariant-loop-cursor : goal.invariant-loop-cursor
invariant-loop-cursor l = group_end l.cursor ≡ group_end l.members

abbrev pub decreases-loop-cursor : goal.decreases-loop-cursor
decreases-loop-cursor l = count l.cursor
