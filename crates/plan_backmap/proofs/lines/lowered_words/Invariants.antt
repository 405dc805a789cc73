use Rattle.std.proofs.Common.{◌≡◌, map, take}
use Rattle.pddl_lexer.specs.Text.{lowered}
use Rattle.plan_backmap.proofs.lines.lowered_words.Given as goal

abbrev pub invariant-loop-word : goal.invariant-loop-word
invariant-loop-word l = l.words.items ≡ map (λ word. lowered word.now) (take l.word-index l.written)
