-- One more literal that each choice has.
use Rattle.std.proofs.Common.{sym, subst}
use Rattle.lists.proofs.Members.{member_map}
use Rattle.fdr_effects.specs.declared.rivals.Rival.{Rival}
use Rattle.fdr_effects.specs.Rivals.{conditions}
use Rattle.fdr_effects.specs.Standing.{AreForced}
use Rattle.fdr_effects.proofs.StandingChoices.{cause_forced, forced_more}
use Rattle.fdr_effects.proofs.choices.forced.Goals as goal

pub loop-rival-init : goal.loop-rival-init
loop-rival-init c = cause_forced c.args.cause (conditions c.args.rivals.now)

pub loop-rival-preserved : goal.loop-rival-preserved
loop-rival-preserved c =
    let rivals = c.args.rivals.now in
    let r = c.rival-item.result in
    subst (AreForced c.args.cause (conditions rivals)) (sym c.in_ok-all.ensures)
    (forced_more c.args.cause (conditions rivals) c.loop-rival.all r.condition.now c.loop-rival.invariant (member_map (λ (q : Rival). q.condition.now) rivals r (c.loop-rival.rival-index, c.loop-rival-test.true, sym c.rival-item.is)))
