use Rattle.std.proofs.Common.{take}
use Rattle.contradictions.specs.Merges.{TellClasses}
use Rattle.contradictions.proofs.terms.merged.Given as goal

abbrev pub invariant-loop-pair : goal.invariant-loop-pair
invariant-loop-pair l = TellClasses l.merges.items (take l.pair-index l.pairs)
