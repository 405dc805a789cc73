use Rattle.std.proofs.Common.{◌≡◌, ◌++◌}
use Rattle.made_texts.specs.Texts.{each_ball}
use Rattle.made_texts.proofs.texts.push_balls.Given as goal

abbrev pub invariant-loop-number : goal.invariant-loop-number
invariant-loop-number l = l.text.items ≡ l.initial.text.items ++ each_ball l.number l.before l.after
