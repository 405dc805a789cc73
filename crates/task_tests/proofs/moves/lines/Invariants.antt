use Rattle.std.specs.Prelude.{All}
use Rattle.task_tests.specs.Moves.{IsMove}
use Rattle.task_tests.proofs.moves.lines.Given as goal

abbrev pub invariant-loop-to : goal.invariant-loop-to
invariant-loop-to l = All (IsMove l.count) l.moves.items

abbrev pub invariant-loop-from : goal.invariant-loop-from
invariant-loop-from l = All (IsMove l.count) l.moves.items
