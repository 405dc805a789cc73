use Rattle.std.proofs.Common.{◌≡◌}
use Rattle.pddl_lexer.specs.Members.{count}
use Rattle.pddl_syntax.specs.Outcome.{first}
use Rattle.pddl_syntax.specs.Values.{eithers}
use Rattle.pddl_syntax.proofs.checks.check_eithers.Given as goal

abbrev pub invariant-loop-cursor : goal.invariant-loop-cursor
invariant-loop-cursor l = first (eithers l.cursor) ≡ first (eithers l.members)

abbrev pub decreases-loop-cursor : goal.decreases-loop-cursor
decreases-loop-cursor l = count l.cursor
