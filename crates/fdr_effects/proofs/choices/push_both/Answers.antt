-- One literal alone.
use Rattle.fdr_effects.proofs.StandingChoices.{one_copy}
use Rattle.fdr_effects.proofs.choices.push_both.Goals as goal

pub returns-in_ok-push-in-len1 : goal.returns-in_ok-push-in-len1
returns-in_ok-push-in-len1 c cause =
    one_copy c.args.index.now cause c.args.choice c.args.ones.now _ c.in_ok-choice_with-in-len1.field-0 c.args.all.now.items c.push.new.self.items c.in_ok-push-in-len1.ensures.items c.in_ok-choice_with-in-len1.ensures c.in-len1.len_at_least c.in-len1.len_below
