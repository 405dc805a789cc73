use Rattle.std.proofs.Common.{◌≡◌, ◌++◌}
use Rattle.pddl_lexer.specs.Members.{count}
use Rattle.pddl_syntax.specs.Values.{group_end, typed}
use Rattle.pddl_syntax.proofs.values.typed_list.Given as goal

abbrev pub invariant-loop-cursor : goal.invariant-loop-cursor
invariant-loop-cursor l = (l.list.items ++ typed l.cursor ≡ typed l.members) × (l.end ≡ group_end l.cursor)

abbrev pub decreases-loop-cursor : goal.decreases-loop-cursor
decreases-loop-cursor l = count l.cursor
