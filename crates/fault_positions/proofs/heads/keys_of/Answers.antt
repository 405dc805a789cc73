use Rattle.std.proofs.Common.{take_all, subst}
use Rattle.fault_positions.proofs.HeadTables.{AreKeys, keys_none, keys_turn}
use Rattle.fault_positions.proofs.heads.keys_of.Goals as goal

pub loop-head-init : goal.loop-head-init
loop-head-init c = keys_none c.new-keys.result.keys c.new-keys.ensures.empty

pub loop-head-preserved : goal.loop-head-preserved
loop-head-preserved c =
    keys_turn c.args.heads.now c.loop-head.head-index c.head-item.result c.loop-head-test.true c.head-item.is
    c.loop-head.keys.keys c.insert.new.self.keys c.key_of.result c.key_of.ensures.name c.key_of.ensures.arity
    c.in_ok-insert.ensures.updates.0 c.loop-head.invariant

pub returns : goal.returns
returns c = subst (λ heads. AreKeys heads c.loop-head.keys.keys) (take_all c.loop-head.head-index c.args.heads.now c.loop-head-test.false) c.loop-head.invariant
