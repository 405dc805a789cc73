use Rattle.std.proofs.Common.{refl}
use Rattle.fault_positions.proofs.FirstPositions.{first_after}
use Rattle.fault_positions.proofs.positions.try_first_of.Goals as goal

pub loop-item-preserved : goal.loop-item-preserved
loop-item-preserved g c = λ positions_of calls.
    first_after positions_of c.args.items.now c.loop-item.item-index c.item-item.result c.loop-item-test.true c.item-item.is
    c.loop-item.first c.earlier-first.result c.in_ok-position_of.field-0 (c.loop-item.invariant positions_of calls) (calls c.item-item.result c.in_ok-position_of.field-0 record { shown = _; shows = refl; says = record { met = c.in_ok-position_of.ensures {u = tt} } }) c.earlier-first.ensures
