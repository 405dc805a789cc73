use Rattle.std.proofs.Common.{length}
use Rattle.pddl_lexer.proofs.ReaderTurns.{Passed}
use Rattle.pddl_lexer.proofs.reader.read_tree.Given as goal

abbrev pub invariant-loop-text : goal.invariant-loop-text
invariant-loop-text l = Passed l.bytes l.scanner l.builder l.text

abbrev pub decreases-loop-text : goal.decreases-loop-text
decreases-loop-text l = length l.text
