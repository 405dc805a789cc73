use Rattle.std.proofs.Common.{◌≡◌, ◌++◌}
use Rattle.pddl_lexer.specs.Members.{count}
use Rattle.pddl_syntax.specs.Outcome.{at_each}
use Rattle.pddl_syntax.specs.Values.{term}
use Rattle.pddl_syntax.proofs.values.terms.Given as goal

abbrev pub invariant-loop-cursor : goal.invariant-loop-cursor
invariant-loop-cursor l = l.terms.items ++ at_each term l.cursor ≡ at_each term l.members

abbrev pub decreases-loop-cursor : goal.decreases-loop-cursor
decreases-loop-cursor l = count l.cursor
