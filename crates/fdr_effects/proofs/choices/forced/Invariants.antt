use Rattle.fdr_effects.specs.Rivals.{conditions}
use Rattle.fdr_effects.specs.Standing.{AreForced}
use Rattle.fdr_effects.proofs.choices.forced.Given as goal

abbrev pub invariant-loop-rival : goal.invariant-loop-rival
invariant-loop-rival l = AreForced l.fn.cause (conditions l.rivals) l.all
