use Rattle.std.proofs.Common.{sym, ap, ◌∙◌}
use Rattle.relaxed_reach.proofs.KeptTurns.{number_turn, other_turn}
use Rattle.relaxed_reach.proofs.numbered.numbers.Goals.{in-Some+in_ok-push, in_default}
use Rattle.relaxed_reach.proofs.numbered.numbers.Goals as goal

pub loop-atom-preserved : goal.loop-atom-preserved
loop-atom-preserved c =
    let before = c.loop-atom.numbers.items in
    let held = c.loop-atom.invariant in
    elim c.match-number.branch [
      | in-Some+in_ok-push w ↦
          ap (λ numbers. numbers.items) w.numbers-is ∙ w.in_ok-push.ensures.items
          ∙ number_turn c.args.facts.now c.args.atoms.now c.loop-atom.atom-index c.atom-item.result c.loop-atom-test.true c.atom-item.is before held w.in-Some.number (sym c.number.ensures ∙ w.in-Some.is)
      | in_default w ↦
          ap (λ numbers. numbers.items) w.numbers-is
          ∙ other_turn c.args.facts.now c.args.atoms.now c.loop-atom.atom-index c.atom-item.result c.loop-atom-test.true c.atom-item.is before held (sym c.number.ensures ∙ w.in_default.is)
    ]
