use Rattle.std.proofs.Common.{◌≡◌, ◌≤◌, ◌+◌, ◌*◌}
use Rattle.pddl_lexer.specs.Members.{inside, count}
use Rattle.pddl_syntax.specs.Conditions.{condition}
use Rattle.pddl_syntax.specs.Outcome.{every, first}
use Rattle.pddl_syntax.proofs.Rows.{after}
use Rattle.pddl_syntax.proofs.condition.+condition.Given as goal

abbrev pub decreases-condition : goal.decreases-condition
decreases-condition l = 4 * count (inside l.cursor.now) + 2

abbrev pub decreases-by_head : goal.decreases-by_head
decreases-by_head l = 4 * count l.others.now + 5

abbrev pub decreases-negation : goal.decreases-negation
decreases-negation l = 4 * count l.members.now + 4

abbrev pub decreases-implication : goal.decreases-implication
decreases-implication l = 4 * count l.members.now + 4

abbrev pub decreases-quantified : goal.decreases-quantified
decreases-quantified l = 4 * count l.members.now + 4

abbrev pub decreases-joined : goal.decreases-joined
decreases-joined l = 4 * count l.members.now

abbrev pub invariant-joined-loop-cursor : goal.invariant-joined-loop-cursor
invariant-joined-loop-cursor l =
    (after l.conditions.items (every condition l.cursor) ≡ first (every condition l.members)) × (count l.cursor ≤ count l.members)

abbrev pub decreases-joined-loop-cursor : goal.decreases-joined-loop-cursor
decreases-joined-loop-cursor l = count l.cursor
