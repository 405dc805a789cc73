use Rattle.std.proofs.Common.{◌≡◌, ◌≤◌, ◌+◌, ◌*◌}
use Rattle.pddl_lexer.specs.Members.{inside, count}
use Rattle.pddl_syntax.specs.Effects.{effect}
use Rattle.pddl_syntax.specs.Outcome.{every, first}
use Rattle.pddl_syntax.proofs.Rows.{after}
use Rattle.pddl_syntax.proofs.effect.+effect.Given as goal

abbrev pub decreases-effect : goal.decreases-effect
decreases-effect l = 4 * count (inside l.cursor.now) + 2

abbrev pub decreases-by_head : goal.decreases-by_head
decreases-by_head l = 4 * count l.others.now + 5

abbrev pub decreases-guarded : goal.decreases-guarded
decreases-guarded l = 4 * count l.members.now + 4

abbrev pub decreases-for_all : goal.decreases-for_all
decreases-for_all l = 4 * count l.members.now + 4

abbrev pub decreases-conjunction : goal.decreases-conjunction
decreases-conjunction l = 4 * count l.members.now

abbrev pub invariant-conjunction-loop-cursor : goal.invariant-conjunction-loop-cursor
invariant-conjunction-loop-cursor l =
    (after l.effects.items (every effect l.cursor) ≡ first (every effect l.members)) × (count l.cursor ≤ count l.members)

abbrev pub decreases-conjunction-loop-cursor : goal.decreases-conjunction-loop-cursor
decreases-conjunction-loop-cursor l = count l.cursor
