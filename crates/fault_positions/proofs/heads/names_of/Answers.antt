use Rattle.std.proofs.Common.{false}
use Rattle.fault_positions.proofs.NameTests.{names_turn}
use Rattle.fault_positions.proofs.heads.names_of.Goals as goal

pub loop-head-preserved : goal.loop-head-preserved
loop-head-preserved c =
    names_turn (λ head. head.name.name) (λ _. false)
    c.args.heads.now c.loop-head.head-index c.head-item.result c.loop-head-test.true c.head-item.is
    c.loop-head.names c.add.new.self c.as_slice.result.now c.as_slice.ensures c.in_ok-add.ensures.added c.loop-head.invariant
