use Rattle.std.proofs.Common.{◌≡◌, ◌++◌}
use Rattle.pddl_lexer.specs.Members.{count}
use Rattle.pddl_syntax.specs.Outcome.{at_each}
use Rattle.pddl_syntax.specs.Values.{named}
use Rattle.pddl_syntax.proofs.values.each_named.Given as goal

abbrev pub invariant-loop-cursor : goal.invariant-loop-cursor
invariant-loop-cursor l = l.names.items ++ at_each named l.cursor ≡ at_each named l.members

abbrev pub decreases-loop-cursor : goal.decreases-loop-cursor
decreases-loop-cursor l = count l.cursor
