use Rattle.std.proofs.Common.{sym, subst}
use Rattle.std.specs.Prelude.{All}
use Rattle.std.proofs.lemmas.List.Elements.{All-push}
use Rattle.task_tests.specs.Moves.{IsMove}
use Rattle.task_tests.proofs.moves.push_move.Goals as goal

pub returns : goal.returns
returns c =
    subst (All (IsMove c.args.count)) (sym c.in_ok-push.ensures.items) (All-push (IsMove c.args.count) c.args.moves.now.items c.in_ok-move_from.field-0 c.requires.moves (record {
      predicate = c.args.predicate;
      from = c.args.from;
      to = c.args.to;
      one_of_two = c.requires.predicate;
      from_object = c.requires.from;
      to_object = c.requires.to;
      is = c.in_ok-move_from.ensures;
    }))
