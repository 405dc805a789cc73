use Rattle.std.proofs.Common.{rules}
use Rattle.messages.specs.Pieces.{piece_bytes}
use Rattle.messages.proofs.Pieces.{broken_piece}
use Rattle.messages.proofs.message.say_pieces.Goals as goal

pub returns-in_err-say_piece-clause-err : goal.returns-in_err-say_piece-clause-err
returns-in_err-say_piece-clause-err g c =
    let broke = broken_piece piece_bytes _ _ _ c.args.pieces.now c.loop-piece.piece-index _ c.loop-piece-test.true c.loop-piece.invariant.printed c.in_err-say_piece.ensures.err in
    search (rules, broke)
