-- What is dropped can't stand.
use Rattle.std.proofs.Common.{ap, ◌∙◌}
use Rattle.fdr_effects.specs.Standing.{standing}
use Rattle.fdr_effects.proofs.StandingChoices.{one_more, dropped}
use Rattle.fdr_effects.proofs.choices.push_standing.Goals as goal

pub returns-then-not-can : goal.returns-then-not-can
returns-then-not-can c cause = dropped c.args.index.now cause c.args.choice c.args.all.now.items (c.in_ok-can.ensures c.if-not-can.true)

pub returns : goal.returns
returns c cause = ap (standing c.args.index.now cause) c.in_ok-push.ensures.items ∙ one_more c.args.index.now cause c.args.choice c.args.all.now.items
