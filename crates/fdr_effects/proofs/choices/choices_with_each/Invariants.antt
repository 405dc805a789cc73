use Rattle.std.proofs.Common.{◌≡◌, map}
use Rattle.std.specs.List.{flat_map}
use Rattle.fdr_effects.specs.Effects.{both, negations}
use Rattle.fdr_effects.specs.Standing.{standing}
use Rattle.fdr_effects.proofs.choices.choices_with_each.Given as goal

abbrev pub invariant-loop-choice : goal.invariant-loop-choice
invariant-loop-choice l =
    standing l.cause.cover l.cause.literals l.all.items ≡ standing l.cause.cover l.cause.literals (flat_map (λ choice. map (λ one. both choice one) (negations l.literals)) l.yielded)
