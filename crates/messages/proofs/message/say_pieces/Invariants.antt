use Rattle.std.proofs.Common.{◌≡◌, take}
use Rattle.std.specs.List.{flat_map}
use Rattle.std.specs.Io.KnownBytes.{append_known}
use Rattle.messages.specs.Pieces.{piece_bytes}
use Rattle.messages.proofs.message.say_pieces.Given as goal

abbrev pub invariant-loop-piece : goal.invariant-loop-piece
invariant-loop-piece g l = record {
  printed : g.C.Console.printed l.console ≡ append_known (g.C.Console.printed l.fn.console) (flat_map piece_bytes (take l.piece-index l.pieces));
  faults : g.C.Console.faults l.console ≡ g.C.Console.faults l.fn.console;
}
