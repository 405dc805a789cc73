use Rattle.std.proofs.Common.{◌≡◌, take}
use Rattle.fdr_effects.specs.Effects.{negated_choices}
use Rattle.fdr_effects.specs.Rivals.{conditions}
use Rattle.fdr_effects.specs.Standing.{standing}
use Rattle.fdr_effects.proofs.choices.negated_choices.Given as goal

abbrev pub invariant-loop-rival : goal.invariant-loop-rival
invariant-loop-rival l = standing l.cause.cover l.cause.literals l.all.items ≡ standing l.cause.cover l.cause.literals (negated_choices (conditions (take l.rival-index l.rivals)))
