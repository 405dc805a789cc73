use Rattle.std.proofs.Common.{false}
use Rattle.fault_positions.proofs.NameTests.{names_turn}
use Rattle.fault_positions.proofs.arguments.DerivedNames.of.Goals as goal

pub loop-axiom-preserved : goal.loop-axiom-preserved
loop-axiom-preserved c =
    names_turn (λ rule. rule.head.name.name) (λ _. false)
    c.as_slice-axiom-items.result.now c.loop-axiom.axiom-index c.axiom-item.result c.loop-axiom-test.true c.axiom-item.is
    c.loop-axiom.names c.add.new.self c.as_slice.result.now c.as_slice.ensures c.in_ok-add.ensures.added c.loop-axiom.invariant
