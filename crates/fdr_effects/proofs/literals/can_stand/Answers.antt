-- What rules out a fact of its own can't stand.
use Rattle.std.proofs.Common.{◌≡◌, Bool, true, false, not, refl, sym, ap, ◌∙◌}
use Rattle.fdr_effects.specs.Standing.{Over, is_contradicted}
use Rattle.fdr_effects.proofs.StandingChoices.{contradicted}
use Rattle.fdr_effects.proofs.literals.can_stand.Goals as goal

turned : (b : Bool) → not b ≡ false → b ≡ true
turned true is = refl
turned false is = absurd cc

pub returns : goal.returns
returns c fails = contradicted c.args.index.now c.args.literals.now (ap (λ (o : Over). is_contradicted o) (sym c.in_ok-marked.ensures) ∙ sym c.is_contradicted.ensures ∙ turned c.is_contradicted.result fails)
